-- What any solution makes of a sound function is better, whether its blocks are reached or not.
use Rattle.std.proofs.Common.{◌≡◌, ℕ, suc, ◌+◌, Bool, true, false, List, [], ◌∷◌, Option, Some, None, refl, sym, ◌∙◌, ap, subst, arith}
use Rattle.std.specs.Prelude.{slice_get}
use Rattle.ir_tree.specs.Rules.{Sound}
use Rattle.ir_tree.specs.declared.block.Block.{Block}
use Rattle.ir_tree.specs.declared.block.Terminator.{Terminator}
use Rattle.ir_tree.specs.declared.block.Terminator.TheVariants.{Branch, Jump, Return, Switch, Unreachable}
use Rattle.ir_tree.specs.declared.function.Function.{Function}
use Rattle.ir_tree.specs.declared.instr.Incoming.{Incoming}
use Rattle.ir_tree.specs.declared.instr.Instr.{Instr}
use Rattle.ir_tree.specs.declared.instr.Instr.TheVariants.{Address, Alloca, Binary, Call, Cast, Freeze, Icmp, Load, Phi as StrayPhi, Select, Store}
use Rattle.ir_tree.specs.declared.instr.Line.{Line}
use Rattle.ir_tree.specs.declared.instr.Phi.{Phi}
use Rattle.ir_tree.specs.declared.operand.Argument.{Argument}
use Rattle.ir_tree.specs.declared.operand.Operand.{Operand}
use Rattle.ir_tree.specs.declared.operand.Operand.TheVariants.{Local, Null, Number as Constant, Poison as PoisonOf, Symbol as Named}
use Rattle.ir_tree.specs.Edited.{with_operands}
use Rattle.ir_meaning.specs.Near.{BetterThan}
use Rattle.ir_meaning.specs.Program.{Program}
use Rattle.ir_meaning.specs.Facts.{BlockRight, BlocksRight, EdgeFacts, EdgesRead, EntryBare, Facts, IsOther, LineRule, LinesRight, PhisRead, RuleFor, behind_local, blocks_replaced, end_replaced, replaced}
use Rattle.ir_meaning.specs.Formed.{IsFormed}
use Rattle.ir_meaning.specs.Needed.{AllKept, EndReads, IsKept, UsesKept}
use Rattle.ir_meaning.proofs.Alike.Itself.{same_better}
use Rattle.ir_meaning.proofs.Facts.Known.{known_better}
use Rattle.ir_edit.specs.Substituted.{replacement}
use Rattle.ir_facts.specs.Candidates.{candidates}
use Rattle.ir_facts.specs.Settled.{IsFirm, IsSettled, LinesFirm}
use Rattle.ir_facts.specs.Steps.{IsSolution, StepsAreBetter, end_of, ends_of, substituted_by}
use Rattle.ir_facts.proofs.Blocks.{find_at, found_there}
use Rattle.ir_facts.proofs.Covering.{covered}
use Rattle.ir_facts.proofs.RightSources.{AreSources, LineSource, LineSources}
use Rattle.ir_facts.proofs.Sourcing.{are_sources}

abbrev every : ℕ → Bool
every x = true

all_kept : (v : Operand) → IsKept every v
all_kept (Local x) = refl
all_kept (Constant w n) = tt
all_kept Null = tt
all_kept (PoisonOf reg) = tt
all_kept (Named t i) = tt

each_kept : (as' : List Argument) → AllKept every as'
each_kept [] = tt
each_kept (a ∷ as') = (all_kept a.operand, each_kept as')

any_reads : (i : Instr) → UsesKept every i
any_reads (Binary op f w l r) = (all_kept l, all_kept r)
any_reads (Icmp p reg l r) = (all_kept l, all_kept r)
any_reads (Cast op from o to) = all_kept o
any_reads (Select t a b) = (all_kept t, all_kept a.operand, all_kept b.operand)
any_reads (Freeze reg o) = all_kept o
any_reads (Alloca shape align) = tt
any_reads (Load reg o align) = all_kept o
any_reads (Store reg o d align) = (all_kept o, all_kept d)
any_reads (Address inbounds shape o is) = (all_kept o, each_kept is)
any_reads (Call result o args) = (all_kept o, each_kept args)
any_reads (StrayPhi reg es) = tt

any_end : (t : Terminator) → EndReads every t
any_end (Return None) = tt
any_end (Return (Some a)) = all_kept a.operand
any_end (Jump target) = tt
any_end (Branch c yes' no') = all_kept c
any_end (Switch w o default cases) = all_kept o
any_end Unreachable = tt

any_edges : (ends : ℕ → Facts) (es : List Incoming) → EdgesRead every ends es
any_edges ends [] = tt
any_edges ends (e ∷ es) = (all_kept (replaced (ends e.from) e.value), any_edges ends es)

any_phis : (ends : ℕ → Facts) (ps : List Phi) → PhisRead every ends ps
any_phis ends [] = tt
any_phis ends (p ∷ ps) = (any_edges ends p.incoming, any_phis ends ps)

module _ (c : ℕ → Option Operand) where
  line_rule : (o : Option ℕ) (i : Instr) → IsFirm i → LineSource c o i → LineRule c (λ x. false) o i
  line_rule None i firm own = tt
  line_rule (Some y) i firm own = by (c y) refl
    where
      by : (o : Option Operand) → c y ≡ o → RuleFor false i (c y) × IsOther y (c y)
      by None q = subst (λ (o : Option Operand). RuleFor false i o × IsOther y o) (sym q) (tt, tt)
      by (Some v) q =
          let row = own v q in
          subst (λ (o : Option Operand). RuleFor false i o × IsOther y o) (sym q) (firm v row.0, row.1)

  lines_right : (ls : List Line) (fs : Facts) → LinesFirm ls → LineSources c ls → LinesRight c (λ x. false) fs ls
  lines_right [] fs firm own = tt
  lines_right (l ∷ ls) fs firm own = (
    line_rule l.local l.instr firm.0 own.0,
    any_reads (with_operands (replaced fs) l.instr),
    lines_right ls (behind_local c l.local fs) firm.1 own.1,
  )

module _ (f : Function) (sound : Sound f) (firm : IsSettled f) (starts : ℕ → Facts) (solves : IsSolution (replacement (candidates f)) f starts) where
  abbrev c : ℕ → Option Operand
  c = replacement (candidates f)

  abbrev ends : ℕ → Facts
  ends = ends_of c starts f

  sources : AreSources c f
  sources = let found = covered f sound in are_sources found.family f found.held

  block_right : (p : ℕ) (b : Block) → slice_get f.blocks p ≡ Some b → BlockRight f c (λ x. false) starts ends b
  block_right p b e =
      let at = find_at f sound.formed.once p b e in
      record {
        phis = any_phis ends b.phis;
        lines = lines_right c b.lines (starts b.number) (firm p b e) (sources.lines p b e);
        ends_are = ap (end_of c starts) at.0;
        end = any_end (end_replaced (ends b.number) b.end);
        targets = λ n x target found.
            let to = found_there f.blocks n x found in
            subst (λ (j : ℕ). EdgeFacts (ends b.number) b.number x.phis (starts j)) (sym to.1)
            (solves.edges b.number n b x at.0 target found);
      }

  blocks_right : (j : ℕ) (bs : List Block) → ((i : ℕ) (b : Block) → slice_get bs i ≡ Some b → slice_get f.blocks (j + i) ≡ Some b) → BlocksRight f c (λ x. false) starts ends bs
  blocks_right j [] at = tt
  blocks_right j (b ∷ bs) at = (block_right (j + 0) b (at 0 b refl), blocks_right (suc j) bs (λ i d e. let on : suc j + i ≡ j + suc i = omega arith in ap (slice_get f.blocks) on ∙ at (suc i) d e))

  pub solution_better : (p : Program) → IsFormed p → BetterThan p 1 (substituted_by c starts f) f
  solution_better p formed = by f.blocks refl
    where
      by : (bs : List Block) → f.blocks ≡ bs → BetterThan p 1 (substituted_by c starts f) f
      by [] e =
          let same : f ≡ substituted_by c starts f = λ i. record f { blocks = (e ∙ ap (blocks_replaced c starts ends) (sym e)) i } in
          subst (λ (h : Function). BetterThan p 1 h f) same (same_better p formed f)
      by (b ∷ bs) e = known_better p formed f c (λ x. false) starts ends (record {
        blocks = blocks_right 0 f.blocks (λ i d g. let on : 0 + i ≡ i = omega arith in ap (slice_get f.blocks) on ∙ g);
        entry = subst (EntryBare starts) (sym e) (solves.entry b (ap (λ (more : List Block). slice_get more 0) e));
      })

pub steps_better : StepsAreBetter
steps_better f g sound firm step p formed =
    subst (λ (h : Function). BetterThan p 1 h f) (sym (step.most step.starts step.solution (λ n x v h. h))) (solution_better f sound firm step.starts step.solution p formed)
