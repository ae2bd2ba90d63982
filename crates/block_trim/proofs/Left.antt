-- The blocks that are left.
use Rattle.std.proofs.Common.{◌≡◌, ℕ, zero, suc, ◌<◌, nat_eq, Bool, true, false, ◌⊎◌, inl, inr, List, [], ◌∷◌, length, Option, Some, None, refl, sym, ◌∙◌, ap, arith, if◌then◌else◌}
use Rattle.std.specs.Prelude.{◌&&◌, slice_get}
use Rattle.std.proofs.lemmas.Bool.{and_from, and_parts, eq-eqb, eqb-true, or_cases, or_left, or_right}
use Rattle.std.proofs.lemmas.List.{nil_from_length}
use Rattle.ir_tree.specs.Formed.{Distinct}
use Rattle.ir_tree.specs.declared.block.Block.{Block}
use Rattle.ir_tree.specs.declared.block.Terminator.{Terminator}
use Rattle.ir_tree.specs.declared.block.Terminator.TheVariants.{Branch, Jump, Return, Switch, Unreachable}
use Rattle.ir_tree.specs.declared.instr.Phi.{Phi}
use Rattle.ir_meaning.proofs.Counting.{distinct_rest, not_again, number_at, numbers_in}
use Rattle.block_trim.specs.Merged.{IsOneOf}
use Rattle.block_trim.specs.Working.{block_of, blocks_of, blocks_taken, may_go, next_of, target_if, with_block, without}
use Rattle.block_trim.specs.declared.joining.Content.{Content}

further : (b : Block) (bs : List Block) (c : Block) → IsOneOf bs c → IsOneOf (b ∷ bs) c
further b bs c (i, at) = (suc i, at)

-- ---- blocks and contents

-- a block of this number was before the place i
abbrev pub WasBefore : List Block → ℕ → Block → Type 0
WasBefore bs i z = (m : ℕ) × (x : Block) × (m < i) × (slice_get bs m ≡ Some x) × (z.number ≡ x.number)

-- the block y has a place among the blocks ys, before which are such alone that were before the place i
pub record Stands (bs ys : List Block) (i : ℕ) (y : Block) : Type 0 where
  pub place : ℕ
  pub at : slice_get ys place ≡ Some y
  pub before : (k : ℕ) (z : Block) → k < place → slice_get ys k ≡ Some z → WasBefore bs i z

-- a block whose content is there has a place, and those before it were before it
pub stands : (name : ℕ → ℕ) (contents : ℕ → Option Content) (bs : List Block) (i : ℕ) (b : Block) (c : Content) → slice_get bs i ≡ Some b → contents b.number ≡ Some c
    → Stands bs (blocks_of name contents bs) i (block_of name b c)
stands name contents [] i b c b_at e = absurd cc
stands name contents (x ∷ bs) zero b c b_at e =
    let same : x ≡ b = cc b_at in
    record {
      place = 0;
      at = ap (λ (y : Block). slice_get (with_block name y (contents y.number) (blocks_of name contents bs)) 0) same ∙ ap (λ (o : Option Content). slice_get (with_block name b o (blocks_of name contents bs)) 0) e;
      before = λ k z lt z_at. absurd (omega (arith, lt));
    }
stands name contents (x ∷ bs) (suc i) b c b_at e = by (contents x.number) (stands name contents bs i b c b_at e)
  where
    later : (z : Block) → WasBefore bs i z → WasBefore (x ∷ bs) (suc i) z
    later z (m, w, lt, w_at, number) = (suc m, w, omega (arith, lt), w_at, number)

    by : (o : Option Content) → Stands bs (blocks_of name contents bs) i (block_of name b c) → Stands (x ∷ bs) (with_block name x o (blocks_of name contents bs)) (suc i) (block_of name b c)
    by None h = record { place = h.place; at = h.at; before = λ k z lt z_at. later z (h.before k z lt z_at) }
    by (Some d) h = record { place = suc h.place; at = h.at; before = before }
      where
        before : (k : ℕ) (z : Block) → k < suc h.place → slice_get (block_of name x d ∷ blocks_of name contents bs) k ≡ Some z → WasBefore (x ∷ bs) (suc i) z
        before zero z lt z_at = let same : block_of name x d ≡ z = cc z_at in (0, x, omega arith, refl, ap (λ (w : Block). w.number) (sym same))
        before (suc k) z lt z_at = later z (h.before k z (omega (arith, lt)) z_at)

-- and so it is there
pub there : (name : ℕ → ℕ) (contents : ℕ → Option Content) (bs : List Block) (b : Block) (c : Content) → IsOneOf bs b → contents b.number ≡ Some c → IsOneOf (blocks_of name contents bs) (block_of name b c)
there name contents bs b c (i, at) e =
    let h : Stands bs (blocks_of name contents bs) i (block_of name b c) = stands name contents bs i b c at e in
    (h.place, h.at)

abbrev pub Was : (ℕ → ℕ) → (ℕ → Option Content) → List Block → Block → Type 0
Was name contents bs y = (b : Block) × (c : Content) × IsOneOf bs b × (contents b.number ≡ Some c) × (y ≡ block_of name b c)

-- and each that is there was a block with a content
pub was : (name : ℕ → ℕ) (contents : ℕ → Option Content) (bs : List Block) (y : Block) → IsOneOf (blocks_of name contents bs) y → Was name contents bs y
was name contents [] y (i, at) = absurd cc
was name contents (x ∷ bs) y is = by (contents x.number) refl is (λ h. later (was name contents bs y h))
  where
    later : Was name contents bs y → Was name contents (x ∷ bs) y
    later (b, c, at, e, made) = (b, c, further x bs b at, e, made)

    by : (o : Option Content) → contents x.number ≡ o → IsOneOf (with_block name x o (blocks_of name contents bs)) y → (IsOneOf (blocks_of name contents bs) y → Was name contents (x ∷ bs) y) → Was name contents (x ∷ bs) y
    by None e h more = more h
    by (Some c) e (zero, at) more = (x, c, (0, refl), e, sym (cc at))
    by (Some c) e (suc i, at) more = more (i, at)

-- contents that go as they are found
pub taken_alike : (name : ℕ → ℕ) (old new : ℕ → Option Content) (bs : List Block) → Distinct (numbers_in bs) → ((i : ℕ) (b : Block) → slice_get bs i ≡ Some b → old b.number ≡ new b.number)
    → blocks_taken name old bs ≡ blocks_of name new bs
taken_alike name old new [] d h = refl
taken_alike name old new (b ∷ bs) d h =
    ap (λ (o : Option Content). with_block name b o (blocks_taken name (without b.number old) bs)) (h 0 b refl)
    ∙ ap (λ (l : List Block). with_block name b (new b.number) l) (taken_alike name (without b.number old) new bs (distinct_rest b.number (numbers_in bs) d) rest)
  where
    rest : (i : ℕ) (c : Block) → slice_get bs i ≡ Some c → without b.number old c.number ≡ new c.number
    rest i c at = ap (λ (t : Bool). if t then None else old c.number) (not_again b.number (numbers_in bs) d i c.number (number_at bs i c at)) ∙ h (suc i) c at

-- ---- what may go

pub may : (one : ℕ → Bool) (bs : List Block) (b : Block) → IsOneOf bs b → b.phis ≡ [] → one b.number ≡ true → may_go one bs b.number ≡ true
may one [] b (i, at) p e = absurd cc
may one (x ∷ bs) b (zero, at) p e =
    let same : x ≡ b = cc at in
    or_left (nat_eq x.number b.number && (nat_eq (length x.phis) 0 && one x.number)) (may_go one bs b.number)
    (and_from (nat_eq x.number b.number) (nat_eq (length x.phis) 0 && one x.number) (eq-eqb x.number b.number (ap (λ (y : Block). y.number) same))
    (and_from (nat_eq (length x.phis) 0) (one x.number) (ap (λ (y : Block). nat_eq (length y.phis) 0) same ∙ ap (λ (ps : List Phi). nat_eq (length ps) 0) p) (ap (λ (y : Block). one y.number) same ∙ e)))
may one (x ∷ bs) b (suc i, at) p e = or_right (nat_eq x.number b.number && (nat_eq (length x.phis) 0 && one x.number)) (may_go one bs b.number) (may one bs b (i, at) p e)

abbrev pub Goes : (ℕ → Bool) → List Block → ℕ → Type 0
Goes one bs n = (b : Block) × IsOneOf bs b × (b.number ≡ n) × (b.phis ≡ []) × (one b.number ≡ true)

pub goes : (one : ℕ → Bool) (bs : List Block) (n : ℕ) → may_go one bs n ≡ true → Goes one bs n
goes one [] n h = absurd cc
goes one (x ∷ bs) n h = by (or_cases (nat_eq x.number n && (nat_eq (length x.phis) 0 && one x.number)) (may_go one bs n) h) (goes one bs n)
  where
    later : Goes one bs n → Goes one (x ∷ bs) n
    later (b, at, number, no_phis, e) = (b, further x bs b at, number, no_phis, e)

    by : ((nat_eq x.number n && (nat_eq (length x.phis) 0 && one x.number)) ≡ true) ⊎ (may_go one bs n ≡ true) → (may_go one bs n ≡ true → Goes one bs n) → Goes one (x ∷ bs) n
    by (inl e) more =
        let parts = and_parts (nat_eq x.number n) (nat_eq (length x.phis) 0 && one x.number) e in
        let inner = and_parts (nat_eq (length x.phis) 0) (one x.number) parts.1 in
        (x, (0, refl), eqb-true x.number n parts.0, nil_from_length x.phis (eqb-true (length x.phis) 0 inner.0), inner.1)
    by (inr e) more = later (more e)

-- the entry can't go
pub entry_stays : (one : ℕ → Bool) (x : Block) (bs : List Block) → Distinct (numbers_in (x ∷ bs)) → may_go one bs x.number ≡ false
entry_stays one x bs d = by (may_go one bs x.number) refl
  where
    clash : Goes one bs x.number → ⊥
    clash (b, (i, at), number, no_phis, e) = let no : true ≡ false = sym (eq-eqb x.number b.number (sym number)) ∙ not_again x.number (numbers_in bs) d i b.number (number_at bs i b at) in absurd (cc no)

    by : (t : Bool) → may_go one bs x.number ≡ t → may_go one bs x.number ≡ false
    by true e = absurd (clash (goes one bs x.number e))
    by false e = e

-- ---- where a block goes

target_was : (test : ℕ → Bool) (t : Terminator) (n : ℕ) → target_if test t ≡ Some n → (t ≡ Jump n) × (test n ≡ true)
target_was test (Jump m) n e = by (test m) refl e
  where
    by : (b : Bool) → test m ≡ b → (if b then Some m else None) ≡ Some n → (Jump m ≡ Jump n) × (test n ≡ true)
    by true h e = let same : m ≡ n = cc e in (ap Jump same, ap test (sym same) ∙ h)
    by false h e = absurd cc
target_was test (Return a) n e = absurd cc
target_was test (Branch c t f) n e = absurd cc
target_was test (Switch w v d cs) n e = absurd cc
target_was test Unreachable n e = absurd cc

abbrev pub NextWas : (ℕ → Bool) → Option Content → ℕ → Type 0
NextWas test o n = (c : Content) × (o ≡ Some c) × (c.end ≡ Jump n) × (test n ≡ true)

pub next_was : (test : ℕ → Bool) (o : Option Content) (n : ℕ) → next_of test o ≡ Some n → NextWas test o n
next_was test None n e = absurd cc
next_was test (Some c) n e = let h = target_was test c.end n e in (c, refl, h.0, h.1)

pub next_is : (test : ℕ → Bool) (o : Option Content) (c : Content) (n : ℕ) → o ≡ Some c → c.end ≡ Jump n → test n ≡ true → next_of test o ≡ Some n
next_is test o c n e jumps h = ap (next_of test) e ∙ ap (target_if test) jumps ∙ ap (λ (b : Bool). if b then Some n else None) h
