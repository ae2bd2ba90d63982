-- A step with candidates of locals that nobody uses changes nothing.
use Rattle.std.proofs.Common.{◌≡◌, ℕ, Bool, false, ◌||◌, List, [], ◌∷◌, Option, Some, None, refl, sym, ◌∙◌}
use Rattle.std.specs.Prelude.{is_some}
use Rattle.ir_tree.specs.declared.block.Block.{Block}
use Rattle.ir_tree.specs.declared.function.Function.{Function}
use Rattle.ir_tree.specs.declared.instr.Incoming.{Incoming}
use Rattle.ir_tree.specs.declared.instr.Line.{Line}
use Rattle.ir_tree.specs.declared.instr.Phi.{Phi}
use Rattle.ir_tree.specs.declared.operand.Operand.{Operand}
use Rattle.ir_tree.specs.declared.operand.Operand.TheVariants.{Local, Null, Number as Constant, Poison as PoisonOf, Symbol as Named}
use Rattle.ir_meaning.specs.Facts.{Facts, behind_local, block_replaced, blocks_replaced, edges_replaced, lines_replaced, phis_replaced, replaced}
use Rattle.fact_sources.specs.Membership.{is_member}
use Rattle.fact_sources.specs.Naming.{block_names, blocks_name, end_names, entries_name, instr_names, lines_name, phis_name}
use Rattle.ir_facts.specs.Steps.{IsSolution, IsStep, candidate_of, ends_of}
use Rattle.ir_facts.proofs.Holding.{Known, known_one, local_none}
use Rattle.ir_facts.proofs.Replaced.{end_is}
use Rattle.ir_facts.proofs.StepsSound.{ends_known}
use Rattle.fact_sources.proofs.Neither.{neither}
use Rattle.fact_sources.proofs.Unnamed.{end_same, instr_same, nothing}

module _ (among : ℕ → Bool) (c : ℕ → Option Operand) (out : (x : ℕ) → among x ≡ false → c x ≡ None) where
  some_none : (v : Operand) (o : Option Operand) → o ≡ Some v → o ≡ None → ⊥
  some_none v o e n = absurd (cc (sym n ∙ e))

  operand_stays : (fs : Facts) → Known c fs → (o : Operand) → is_member among o ≡ false → replaced fs o ≡ o
  operand_stays fs known (Local x) h = local_none c fs x (λ u has. some_none u (c x) (known x u has) (out x h))
  operand_stays fs known (Constant w n) h = refl
  operand_stays fs known Null h = refl
  operand_stays fs known (PoisonOf reg) h = refl
  operand_stays fs known (Named t i) h = refl

  lines_stay : (ls : List Line) (fs : Facts) → Known c fs → lines_name among ls ≡ false → lines_replaced c fs ls ≡ ls
  lines_stay [] fs known h = refl
  lines_stay (l ∷ ls) fs known h =
      let two = neither (instr_names among l.instr) (lines_name among ls) h in
      λ i. record { local = l.local; instr = instr_same among (replaced fs) (operand_stays fs known) l.instr two.0 i }
      ∷ lines_stay ls (behind_local c l.local fs) (known_one c l.local fs known) two.1 i

  module _ (starts ends : ℕ → Facts) (known : (n : ℕ) → Known c (starts n)) (at_ends : (n : ℕ) → Known c (ends n)) where
    edges_stay : (es : List Incoming) → entries_name among es ≡ false → edges_replaced ends es ≡ es
    edges_stay [] h = refl
    edges_stay (e ∷ es) h =
        let two = neither (is_member among e.value) (entries_name among es) h in
        λ i. record { from = e.from; value = operand_stays (ends e.from) (at_ends e.from) e.value two.0 i } ∷ edges_stay es two.1 i

    phis_stay : (ps : List Phi) → phis_name among ps ≡ false → phis_replaced ends ps ≡ ps
    phis_stay [] h = refl
    phis_stay (p ∷ ps) h =
        let two = neither (entries_name among p.incoming) (phis_name among ps) h in
        λ i. record { local = p.local; reg = p.reg; incoming = edges_stay p.incoming two.0 i } ∷ phis_stay ps two.1 i

    block_stays : (b : Block) → block_names among b ≡ false → block_replaced c starts ends b ≡ b
    block_stays b h =
        let two = neither (phis_name among b.phis) (lines_name among b.lines || end_names among b.end) h in
        let more = neither (lines_name among b.lines) (end_names among b.end) two.1 in
        λ i. record {
          number = b.number;
          phis = phis_stay b.phis two.0 i;
          lines = lines_stay b.lines (starts b.number) (known b.number) more.0 i;
          end = (end_is (ends b.number) b.end ∙ end_same among (replaced (ends b.number)) (operand_stays (ends b.number) (at_ends b.number)) b.end more.1) i;
        }

    blocks_stay : (bs : List Block) → blocks_name among bs ≡ false → blocks_replaced c starts ends bs ≡ bs
    blocks_stay [] h = refl
    blocks_stay (b ∷ bs) h =
        let two = neither (block_names among b) (blocks_name among bs) h in
        λ i. block_stays b two.0 i ∷ blocks_stay bs two.1 i

  none_solve : (f : Function) → IsSolution c f (λ n. [])
  none_solve f = record {
    known = λ n x v h. absurd h;
    entry = λ b e. refl;
    outside = λ n x v b e h. absurd h;
    edges = λ m n a b e target d. tt;
  }

  stays : (f : Function) → blocks_name among f.blocks ≡ false → IsStep c f f
  stays f h = record {
    starts = λ n. [];
    solution = none_solve f;
    most = λ others sol less.
        λ i. record f {
          blocks = sym (blocks_stay others (ends_of c others f) (λ n x v g. sol.known n x v g) (ends_known c f others (λ n x v g. sol.known n x v g)) f.blocks h) i;
        };
  }

pub unused_step : (f : Function) (value : ℕ → Option Operand) → ((x : ℕ) → value x ≡ candidate_of f x) → blocks_name (λ x. is_some (value x)) f.blocks ≡ false
    → IsStep (candidate_of f) f f
unused_step f value is h = stays (λ x. is_some (value x)) (candidate_of f) (λ x out. sym (is x) ∙ nothing (value x) out) f h
