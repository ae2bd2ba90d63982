-- A walk by points, one line or block behind the others.
use Rattle.std.proofs.Common.{◌≡◌, ℕ, suc, ◌+◌, ◌==◌, Bool, true, false, cond, add-one, refl, List, [], ◌∷◌, ◌++◌, Option, Some, None, append_assoc, length, sym, ◌∙◌, ap}
use Rattle.std.specs.Ordering.{is_eq, nat_cmp}
use Rattle.ir_tree.specs.declared.block.Block.{Block}
use Rattle.ir_tree.specs.declared.block.Case.{Case}
use Rattle.ir_tree.specs.declared.block.Terminator.{Terminator}
use Rattle.ir_tree.specs.declared.block.Terminator.TheVariants.{Branch, Jump, Return, Switch, Unreachable}
use Rattle.ir_tree.specs.declared.instr.Instr.{Instr}
use Rattle.ir_tree.specs.declared.instr.Line.{Line}
use Rattle.ir_tree.specs.Edited.{end_edited, instr_edited}
use Rattle.ir_edit.specs.Numbered.{later_or}
use Rattle.fact_sources.specs.AtPoints.{block_at, blocks_at, end_at, last_point, lines_at, standing}
use Rattle.fact_sources.specs.declared.fact.Fact.{Fact}
use Rattle.fact_sources.proofs.Placed.{is_eq-nat_cmp}
use Rattle.fact_sources.proofs.Staying.{cases_stay}

-- ---- of two answers the later one

later_or-assoc : {A : Type 0} (a b c : Option A) → later_or (later_or a b) c ≡ later_or a (later_or b c)
later_or-assoc (Some k) b c = refl
later_or-assoc None b c = refl

later_or-test : {A : Type 0} (same : Bool) (v : A) (o : Option A) → later_or (cond same (Some v) None) o ≡ cond same (Some v) o
later_or-test true v o = refl
later_or-test false v o = refl

-- ---- terminators

pub end_is : (ts : List Fact) (k : ℕ) (e : Terminator) → end_edited (λ x. x) (standing ts k) e ≡ end_at ts k e
end_is ts k (Return value) = refl
end_is ts k (Jump target) = refl
end_is ts k (Branch condition if_true if_false) = refl
end_is ts k (Switch width value default cases) = ap (λ (cs : List Case). Switch width (standing ts k value) default cs) (cases_stay cases)
end_is ts k Unreachable = refl

-- ---- one step

pub line_at_pushed : (ts : List Fact) (k next : ℕ) (l : Line) (j : Instr) (rest more old new : List Line) → more ≡ l ∷ rest → next ≡ k + 1 → j ≡ instr_edited (λ x. x) (standing ts k) l.instr
    → new ≡ old ++ record { local = l.local; instr = j } ∷ [] → new ++ lines_at ts next rest ≡ old ++ lines_at ts k more
line_at_pushed ts k next l j rest more old new cut step made push =
    ap (λ (xs : List Line). xs ++ lines_at ts next rest) push
    ∙ append_assoc old (record { local = l.local; instr = j } ∷ []) (lines_at ts next rest)
    ∙ (λ i. old ++ record { local = l.local; instr = made i } ∷ lines_at ts ((step ∙ add-one k) i) rest)
    ∙ ap (λ (ls : List Line). old ++ lines_at ts k ls) (sym cut)

pub block_at_pushed : (ts : List Fact) (last : ℕ → Option ℕ) (k e next : ℕ) (b made : Block) (rest more old new : List Block) → more ≡ b ∷ rest → e ≡ k + length b.lines → next ≡ e + 1 → made ≡ block_at ts last k b
    → new ≡ old ++ made ∷ [] → new ++ blocks_at ts last next rest ≡ old ++ blocks_at ts last k more
block_at_pushed ts last k e next b made rest more old new cut at step is push =
    ap (λ (xs : List Block). xs ++ blocks_at ts last next rest) push
    ∙ append_assoc old (made ∷ []) (blocks_at ts last next rest)
    ∙ ap (λ (m : ℕ). old ++ made ∷ blocks_at ts last m rest) (step ∙ add-one e ∙ ap suc at)
    ∙ ap (λ (d : Block). old ++ d ∷ blocks_at ts last (suc (k + length b.lines)) rest) is
    ∙ ap (λ (bs : List Block). old ++ blocks_at ts last k bs) (sym cut)

pub point_placed : (k e next n : ℕ) (b : Block) (rest more : List Block) (old new : Option ℕ) → more ≡ b ∷ rest → e ≡ k + length b.lines → next ≡ e + 1 → new ≡ cond (is_eq (nat_cmp b.number n)) (Some e) old
    → later_or (last_point next rest n) new ≡ later_or (last_point k more n) old
point_placed k e next n b rest more old new cut at step is =
    ap (later_or (last_point next rest n)) (is ∙ ap (λ (t : Bool). cond t (Some e) old) (is_eq-nat_cmp b.number n) ∙ sym (later_or-test (b.number == n) e old))
    ∙ sym (later_or-assoc (last_point next rest n) (cond (b.number == n) (Some e) None) old)
    ∙ ap (λ (m : ℕ). later_or (later_or (last_point m rest n) (cond (b.number == n) (Some e) None)) old) (step ∙ add-one e ∙ ap suc at)
    ∙ ap (λ (m : ℕ). later_or (later_or (last_point (suc (k + length b.lines)) rest n) (cond (b.number == n) (Some m) None)) old) at
    ∙ ap (λ (bs : List Block). later_or (last_point k bs n) old) (sym cut)
