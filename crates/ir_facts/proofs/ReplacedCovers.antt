-- A covered function stays covered as facts are put in the place of locals, at whatever points.
use Rattle.std.proofs.Common.{◌≡◌, ℕ, ◌==◌, ◌||◌, inl, inr, Bool, true, false, List, [], ◌∷◌, Option, Some, option_map, refl, sym, ◌∙◌, ap, subst, if◌then◌else◌}
use Rattle.std.specs.Prelude.{slice_get}
use Rattle.std.proofs.lemmas.Bool.{eqb-true}
use Rattle.ir_tree.specs.Flow.{Among, Equations, IsJustified, holds}
use Rattle.ir_tree.specs.Formed.{Distinct}
use Rattle.ir_tree.specs.declared.block.Block.{Block}
use Rattle.ir_tree.specs.declared.function.Function.{Function}
use Rattle.ir_tree.specs.declared.instr.Incoming.{Incoming}
use Rattle.ir_tree.specs.declared.instr.Line.{Line}
use Rattle.ir_tree.specs.declared.instr.Phi.{Phi}
use Rattle.ir_tree.specs.declared.operand.Operand.{Operand}
use Rattle.ir_tree.specs.declared.operand.Operand.TheVariants.{Local, Null, Number as Constant, Poison as PoisonOf, Symbol as Named}
use Rattle.ir_meaning.specs.Facts.{Facts, behind_local, edge_operand, edges_replaced, end_replaced, function_replaced, lines_replaced, phis_replaced, replaced, replaced_local}
use Rattle.ir_meaning.specs.Needed.{EndReads, IsKept}
use Rattle.ir_facts.proofs.Covers.{BlockCovered, Covers, EdgesCovered, HasEntry, LinesCovered, PhisCovered, PhisEntered, TakenAt, closing, opening, with_named}
use Rattle.ir_facts.proofs.Holding.{Known, known_one}
use Rattle.ir_facts.proofs.Replaced.{all_still, availability_still, block_then, block_there, block_was, definitions_still, edges_still, end_is, phis_still}
use Rattle.ir_facts.proofs.RightSources.{AreSources, LineSources}
use Rattle.ir_facts.proofs.Substituting.{Less, Sourced, Takes, at_ends_of, end_taken, instr_taken, less_open, named_less, named_sourced, no_phi, sourced_open, wide_justified, wider}

-- ---- one point

module _ (c : ℕ → Option Operand) (s s' : ℕ → Bool) (less : Less s s') (src : Sourced c s s') where
  source_kept : (x : ℕ) (v : Operand) → s x ≡ true → c x ≡ Some v → IsKept s' v
  source_kept x (Local z) k is = src x z k is
  source_kept x (Constant w n) k is = tt
  source_kept x Null k is = tt
  source_kept x (PoisonOf reg) k is = tt
  source_kept x (Named t i) k is = tt

  local_kept : (fs : Facts) (x : ℕ) → Known c fs → s x ≡ true → IsKept s' (replaced_local fs x)
  local_kept [] x known k = less x k
  local_kept ((y, u) ∷ fs) x known k = by (y == x) refl (local_kept fs x (λ z v h. known z v (inr h)) k)
    where
      by : (b : Bool) → (y == x) ≡ b → IsKept s' (replaced_local fs x) → IsKept s' (if b then u else replaced_local fs x)
      by true q rest = source_kept x u k (known x u (inl (eqb-true y x q, refl)))
      by false q rest = rest

  pub facts_take : (fs : Facts) → Known c fs → Takes s s' (replaced fs)
  facts_take fs known (Local x) k = local_kept fs x known k
  facts_take fs known (Constant w n) k = tt
  facts_take fs known Null k = tt
  facts_take fs known (PoisonOf reg) k = tt
  facts_take fs known (Named t i) k = tt

-- ---- along lines

lines_kept : (c : ℕ → Option Operand) (ls : List Line) (s s' : ℕ → Bool) (fs : Facts) → Known c fs → Less s s' → Sourced c s s' → LineSources c ls → LinesCovered s ls
    → LinesCovered s' (lines_replaced c fs ls)
lines_kept c [] s s' fs known less src own cov = tt
lines_kept c (l ∷ ls) s s' fs known less src own cov = (
  no_phi (replaced fs) l.instr cov.0,
  instr_taken s s' (replaced fs) (facts_take c s s' less src fs known) l.instr cov.1,
  lines_kept c ls (with_named s l.local) (with_named s' l.local) (behind_local c l.local fs) (known_one c l.local fs known) (named_less s s' l.local less)
      (named_sourced c s s' l less src own.0 cov.1) own.1 cov.2,
)

-- ---- functions

module _ (c : ℕ → Option Operand) (r : ℕ → ℕ → Bool) (f : Function) (cov : Covers r f) (src : AreSources c f)
    (starts ends : ℕ → Facts) (known : (n : ℕ) → Known c (starts n)) (at_ends : (n : ℕ) → Known c (ends n)) where
  abbrev wide : ℕ → ℕ → Bool
  wide = wider r c f

  abbrev g : Function
  g = function_replaced c starts ends f

  closing_still : (p : ℕ) (b : Block) → closing wide p (block_then c starts ends b) ≡ closing wide p b
  closing_still p b = λ i x. wide p x || holds (definitions_still c starts ends b i) x

  opening_still : (p : ℕ) (b : Block) → opening wide p (block_then c starts ends b) ≡ opening wide p b
  opening_still p b = λ i x. wide p x || holds (phis_still c starts ends b.phis i) x

  taken_kept : (n : ℕ) (o : Operand) → TakenAt r f n o → TakenAt wide g n (replaced (ends n) o)
  taken_kept n o t =
      let both = at_ends_of c r f cov src t.place t.block t.found in
      record {
        place = t.place;
        block = block_then c starts ends t.block;
        found = block_there c starts ends f.blocks t.place ∙ ap (option_map (block_then c starts ends)) t.found;
        number = t.number;
        kept = subst (λ (s : ℕ → Bool). IsKept s (replaced (ends n) o)) (sym (closing_still t.place t.block))
            (facts_take c (closing r t.place t.block) (closing wide t.place t.block) both.0 both.1 (ends n) (at_ends n) o t.kept);
      }

  edges_kept : (es : List Incoming) → EdgesCovered r f es → EdgesCovered wide g (edges_replaced ends es)
  edges_kept [] t = tt
  edges_kept (e ∷ es) t = (taken_kept e.from e.value t.0, edges_kept es t.1)

  phis_kept : (ps : List Phi) → PhisCovered r f ps → PhisCovered wide g (phis_replaced ends ps)
  phis_kept [] t = tt
  phis_kept (p ∷ ps) t = (edges_kept p.incoming t.0, phis_kept ps t.1)

  entry_kept : (n : ℕ) (es : List Incoming) → HasEntry n es → HasEntry n (edges_replaced ends es)
  entry_kept n [] (o, e) = absurd (cc e)
  entry_kept n (d ∷ es) (o, e) = by (d.from == n) e (λ e'. entry_kept n es (o, e'))
    where
      by : (b : Bool) → (if b then Some d.value else edge_operand n es) ≡ Some o → (edge_operand n es ≡ Some o → HasEntry n (edges_replaced ends es))
          → (v : Operand) × ((if b then Some (replaced (ends d.from) d.value) else edge_operand n (edges_replaced ends es)) ≡ Some v)
      by true e' more = (replaced (ends d.from) d.value, refl)
      by false e' more = more e'

  entered_kept : (n : ℕ) (ps : List Phi) → PhisEntered n ps → PhisEntered n (phis_replaced ends ps)
  entered_kept n [] t = tt
  entered_kept n (p ∷ ps) t = (entry_kept n p.incoming t.0, entered_kept n ps t.1)

  block_kept : (p : ℕ) (b : Block) → slice_get f.blocks p ≡ Some b → BlockCovered wide g p (block_then c starts ends b)
  block_kept p b e =
      let cover = cov.blocks p b e in
      let both = at_ends_of c r f cov src p b e in
      record {
        phis = phis_kept b.phis cover.phis;
        lines =
            subst (λ (s : ℕ → Bool). LinesCovered s (lines_replaced c (starts b.number) b.lines)) (sym (opening_still p b))
            (lines_kept c b.lines (opening r p b) (opening wide p b) (starts b.number) (known b.number) (less_open c r f cov src p b) (sourced_open c r f cov src p b e) (src.lines p b e) cover.lines);
        end =
            subst (λ (s : ℕ → Bool). EndReads s (end_replaced (ends b.number) b.end)) (sym (closing_still p b))
            (subst (EndReads (closing wide p b)) (sym (end_is (ends b.number) b.end))
            (end_taken (closing r p b) (closing wide p b) (replaced (ends b.number)) (facts_take c (closing r p b) (closing wide p b) both.0 both.1 (ends b.number) (at_ends b.number)) b.end cover.end));
        entered = λ q a' edge found.
            let before = block_was c starts ends f.blocks q a' found in
            subst (λ (a : Block). PhisEntered a.number (phis_replaced ends b.phis)) before.2
            (entered_kept before.0.number b.phis (cover.entered q before.0 (subst (Among q) (edges_still c starts ends f p) edge) before.1));
      }

  pub covered_then : Covers wide g
  covered_then = record {
    justified = subst (λ (e : Equations). IsJustified e wide) (sym (availability_still c starts ends f)) (wide_justified c r f cov src);
    blocks = λ p b' found.
        let before = block_was c starts ends f.blocks p b' found in
        subst (BlockCovered wide g p) before.2 (block_kept p before.0 before.1);
    bare = λ b' found.
        let before = block_was c starts ends f.blocks 0 b' found in
        subst (λ (b : Block). b.phis ≡ []) before.2 (ap (phis_replaced ends) (cov.bare before.0 before.1));
    once = subst Distinct (sym (all_still c starts ends f)) cov.once;
  }
