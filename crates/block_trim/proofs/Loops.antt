-- Steps of the loops.
use Rattle.std.proofs.Common.{◌≡◌, ◌≢◌, ℕ, zero, suc, ◌+◌, ◌≤◌, ◌<◌, nat_eq, Bool, true, false, cond, ◌||◌, List, [], ◌∷◌, ◌++◌, length, get_or, drop, Option, Some, None, refl, sym, ◌∙◌, ap, subst, arith, if◌then◌else◌, append_assoc, append-nil}
use Rattle.std.specs.Prelude.{◌&&◌, slice_get}
use Rattle.std.proofs.lemmas.Bool.{eqb-true, eqb-false}
use Rattle.std.proofs.lemmas.List.{drop_more}
use Rattle.ir_tree.specs.Formed.{Distinct, numbers}
use Rattle.ir_tree.specs.declared.block.Block.{Block}
use Rattle.ir_tree.specs.declared.function.Function.{Function}
use Rattle.ir_meaning.proofs.Counting.{number_at, numbers_in}
use Rattle.block_trim.specs.Merged.{IsMergeOf, IsOneOf}
use Rattle.block_trim.specs.Working.{HasContents, IsContentOf, IsNumber, Joined, block_of, blocks_taken, left, may_go, naming, next, with_block, without}
use Rattle.block_trim.specs.declared.joining.Content.{Content}
use Rattle.block_trim.specs.declared.joining.Joining.{Joining}
use Rattle.block_trim.proofs.Left.{taken_alike}
use Rattle.block_trim.proofs.Start.{none_left}

pub element_at : {X : Type 0} (xs : List X) (i : ℕ) (d : X) → i < length xs → slice_get xs i ≡ Some (get_or xs i d)
element_at [] i d lt = absurd (omega (arith, lt))
element_at (x ∷ xs) zero d lt = refl
element_at (x ∷ xs) (suc i) d lt = element_at xs i d (omega (arith, lt))

pub index_of : {X : Type 0} (xs : List X) (i : ℕ) (d x : X) → slice_get xs i ≡ Some x → get_or xs i d ≡ x
index_of [] i d x e = absurd cc
index_of (y ∷ xs) zero d x e = cc e
index_of (y ∷ xs) (suc i) d x e = index_of xs i d x e

-- ---- candidates

in_or : (o h r : Bool) → ((o || h) || r) ≡ (o || (h || r))
in_or true h r = refl
in_or false h r = refl

pub may_step : (one : ℕ → Bool) (bs : List Block) (i : ℕ) (b : Block) (n : ℕ) (old new wanted all : Bool) → i < length bs → b ≡ get_or bs i b → new ≡ (old || (nat_eq b.number n && wanted))
    → wanted ≡ (nat_eq (length b.phis) 0 && one b.number) → (old || may_go one (drop i bs) n) ≡ all → (new || may_go one (drop (i + 1) bs) n) ≡ all
may_step one bs i b n old new wanted all lt is new_is wanted_is h =
    ap (λ (t : Bool). t || may_go one (drop (i + 1) bs) n) (new_is ∙ ap (λ (t : Bool). old || (nat_eq b.number n && t)) wanted_is)
    ∙ in_or old (nat_eq b.number n && (nat_eq (length b.phis) 0 && one b.number)) (may_go one (drop (i + 1) bs) n)
    ∙ ap (λ (x : Block). old || may_go one (x ∷ drop (i + 1) bs) n) is
    ∙ ap (λ (l : List Block). old || may_go one l n) (sym (drop_more bs i b lt)) ∙ h

-- ---- contents

-- one is taken away and put there again
pub two_steps : (f : Bool) (v g : Option Content) → cond f v (cond f None g) ≡ (if f then v else g)
two_steps true v g = refl
two_steps false v g = refl

-- behind another that was taken away
pub one_step : (f s : Bool) (v g : Option Content) → (if f then v else cond s None g) ≡ (if f then v else if s then None else g)
one_step true s v g = refl
one_step false true v g = refl
one_step false false v g = refl

pub contents_step : (bs : List Block) (i : ℕ) (b : Block) → i < length bs → b ≡ get_or bs i b → Distinct (numbers_in bs) → (old new : ℕ → Option Content) (c : Content) → IsContentOf b c
    → ((q : ℕ) → new q ≡ cond (nat_eq b.number q) (Some c) (old q)) → HasContents i bs old → HasContents (i + 1) bs new
contents_step bs i b lt is d old new c own now h = record { each = each; known = known }
  where
    here : slice_get bs i ≡ Some b
    here = element_at bs i b lt ∙ ap (λ (x : Block). Some x) (sym is)

    known : (n : ℕ) (x : Content) → new n ≡ Some x → IsNumber bs n
    known n x e = by (nat_eq b.number n) refl
      where
        by : (t : Bool) → nat_eq b.number n ≡ t → IsNumber bs n
        by true g = (b, (i, here), eqb-true b.number n g)
        by false g = h.known n x (sym (now n ∙ ap (λ (t : Bool). cond t (Some c) (old n)) g) ∙ e)

    each : (k : ℕ) (x : Block) → k < i + 1 → slice_get bs k ≡ Some x → (y : Content) × (new x.number ≡ Some y) × IsContentOf x y
    each k x lt' at = by (nat_eq b.number x.number) refl
      where
        later : nat_eq b.number x.number ≡ false → (y : Content) × (old x.number ≡ Some y) × IsContentOf x y → (y : Content) × (new x.number ≡ Some y) × IsContentOf x y
        later g (y, e, p) = (y, now x.number ∙ ap (λ (t : Bool). cond t (Some c) (old x.number)) g ∙ e, p)

        by : (t : Bool) → nat_eq b.number x.number ≡ t → (y : Content) × (new x.number ≡ Some y) × IsContentOf x y
        by true g =
            let place : i ≡ k = d i k b.number (number_at bs i b here) (number_at bs k x at ∙ ap (λ (n : ℕ). Some n) (sym (eqb-true b.number x.number g))) in
            let both : Some b ≡ Some x = sym here ∙ ap (slice_get bs) place ∙ at in
            let same : b ≡ x = cc both in
            (c, now x.number ∙ ap (λ (t : Bool). cond t (Some c) (old x.number)) g, subst (λ (z : Block). IsContentOf z c) same own)
        by false g =
            let other : k ≢ i = λ s. (let both : Some b ≡ Some x = sym here ∙ ap (slice_get bs) (sym s) ∙ at in let same : b ≡ x = cc both in eqb-false b.number x.number g (ap (λ (z : Block). z.number) same)) in
            later g (h.each k x (omega arith) at)

pub contents_all : (bs : List Block) (i : ℕ) (m : ℕ → Option Content) → length bs ≤ i → HasContents i bs m → HasContents (length bs) bs m
contents_all bs i m le h = record { each = λ k b lt at. h.each k b (omega (arith, le, lt)) at; known = h.known }

-- ---- blocks

taken_from : (name : ℕ → ℕ) (b : Block) (o : Option Content) (rows rest : List Block) → (rows ++ with_block name b o []) ++ rest ≡ rows ++ with_block name b o rest
taken_from name b None rows rest = ap (λ (l : List Block). l ++ rest) (append-nil rows)
taken_from name b (Some c) rows rest = append_assoc rows (with_block name b (Some c) []) rest

pub taken_step : (name : ℕ → ℕ) (old new : ℕ → Option Content) (bs : List Block) (i : ℕ) (b : Block) → i < length bs → b ≡ get_or bs i b → (rows rows' all : List Block)
    → ((q : ℕ) → new q ≡ cond (nat_eq b.number q) None (old q)) → rows' ≡ rows ++ with_block name b (old b.number) [] → rows ++ blocks_taken name old (drop i bs) ≡ all
    → rows' ++ blocks_taken name new (drop (i + 1) bs) ≡ all
taken_step name old new bs i b lt is rows rows' all now rows_are h =
    (λ j. rows_are j ++ blocks_taken name (λ q. (now q ∙ same (nat_eq b.number q) (old q)) j) (drop (i + 1) bs))
    ∙ taken_from name b (old b.number) rows (blocks_taken name (without b.number old) (drop (i + 1) bs))
    ∙ ap (λ (x : Block). rows ++ blocks_taken name old (x ∷ drop (i + 1) bs)) is
    ∙ ap (λ (l : List Block). rows ++ blocks_taken name old l) (sym (drop_more bs i b lt)) ∙ h
  where
    same : (t : Bool) (o : Option Content) → cond t None o ≡ (if t then None else o)
    same true o = refl
    same false o = refl

pub row_none : (name : ℕ → ℕ) (b : Block) (o : Option Content) (rows rows' : List Block) → o ≡ None → rows' ≡ rows → rows' ≡ rows ++ with_block name b o []
row_none name b o rows rows' e h = h ∙ sym (append-nil rows) ∙ ap (λ (p : Option Content). rows ++ with_block name b p []) (sym e)

pub row_some : (name : ℕ → ℕ) (b : Block) (c : Content) (o : Option Content) (z : Block) (rows rows' : List Block) → o ≡ Some c → z ≡ block_of name b c → rows' ≡ rows ++ z ∷ [] → rows' ≡ rows ++ with_block name b o []
row_some name b c o z rows rows' e z_is h = h ∙ ap (λ (x : Block). rows ++ x ∷ []) z_is ∙ ap (λ (p : Option Content). rows ++ with_block name b p []) (sym e)

-- ---- the end

pub is_merge : (f : Function) (j : Joining) (g : Function) → Distinct (numbers f) → Joined f j → ((b : Block) → IsOneOf f.blocks b → next j b.number ≡ None)
    → g ≡ record f { blocks = blocks_taken (naming j.joins.items) (left j) f.blocks } → IsMergeOf f g
is_merge f j g once work done is =
    subst (IsMergeOf f) (sym (is ∙ (λ i. record f { blocks = taken_alike (naming j.joins.items) (left j) (left j) f.blocks once (λ k b e. refl) i })))
    (work.joins.0, work.joins.1, none_left f j once work done)
