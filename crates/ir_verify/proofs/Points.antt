-- What is available at a point, by the home of a local and by dominance.
use Rattle.std.proofs.Common.{◌≡◌, ◌≢◌, ◌↔◌, ℕ, zero, suc, ◌+◌, ◌<◌, ◌≤◌, Bool, true, false, not, ◌&&◌, cond, List, [], ◌∷◌, ◌++◌, length, take, refl, sym, ap, subst, ◌∙◌, arith, inl, inr, IsTrue}
use Rattle.std.specs.Prelude.{nat_eq, nat_lt, slice_get, Option, Some, None, flat_map}
use Rattle.std.specs.List.{cons_option}
use Rattle.std.proofs.lemmas.Bool.{and_parts, and_from, or_cases, or_left, or_right, eqb-true, eq-eqb, ltb-true, lt-ltb, false≢true, not-true, not_from_false, cases_Bool}
use Rattle.std.proofs.lemmas.List.Folds.{list_any-append}
use Rattle.ir_tree.specs.declared.block.Block.{Block}
use Rattle.ir_tree.specs.declared.function.Function.{Function}
use Rattle.ir_tree.specs.declared.instr.Line.{Line}
use Rattle.ir_tree.specs.Flow.{Among, AtEnds, Justified, IsJustified, edges, Reachable, Dominates, Available, AvailableAt, availability, defined_in, defined_before, definitions, holds, parameters, phi_locals, results, locals, room}
use Rattle.ir_tree.specs.Formed.{Distinct}
use Rattle.ir_flow.specs.Dominating.{Dominance, AreDominators}
use Rattle.ir_flow.specs.Laws.{IsDefinedIn, AvailableByDominance}
use Rattle.ir_flow.proofs.Reaching.{edge-from}
use Rattle.ir_verify.specs.declared.definitions.Home.{Home}
use Rattle.ir_verify.specs.Homes.{IsHome}
use Rattle.ir_verify.proofs.Keys.{got_below}
use Rattle.ir_verify.proofs.Stood.{got_left, got_right}

-- ---- lists without an element twice

got_held : (xs : List ℕ) (x : ℕ) → holds xs x ≡ true → (i : ℕ) × (slice_get xs i ≡ Some x)
got_held [] x h = absurd (false≢true h)
got_held (y ∷ xs) x h =
    elim (or_cases (nat_eq x y) (holds xs x) h) [
      | inl e ↦ (0, ap Some (sym (eqb-true x y e)))
      | inr r ↦ (let w = got_held xs x r in (suc w.0, w.1))
    ]

distinct_apart : (xs ys : List ℕ) (x : ℕ) → Distinct (xs ++ ys) → holds xs x ≡ true → holds ys x ≡ true → ⊥
distinct_apart xs ys x d h k =
    let i = got_held xs x h in
    let j = got_held ys x k in
    let below = got_below xs i.0 x i.1 in
    let same = d i.0 (length xs + j.0) x (got_left xs ys i.0 x i.1) (got_right xs ys j.0 ∙ j.1) in
    omega (arith, below, same)

pub distinct_left : (xs ys : List ℕ) → Distinct (xs ++ ys) → Distinct xs
distinct_left xs ys d i j x g h = d i j x (got_left xs ys i x g) (got_left xs ys j x h)

distinct_right : (xs ys : List ℕ) → Distinct (xs ++ ys) → Distinct ys
distinct_right xs ys d i j x g h =
    let same = d (length xs + i) (length xs + j) x (got_right xs ys i ∙ g) (got_right xs ys j ∙ h) in
    omega (arith, same)

in_flat : (bs : List Block) (d x : ℕ) → defined_in (slice_get bs d) x ≡ true → holds (flat_map definitions bs) x ≡ true
in_flat [] d x h = absurd (false≢true h)
in_flat (b ∷ bs) zero x h = list_any-append (nat_eq x) (definitions b) (flat_map definitions bs) ∙ or_left (holds (definitions b) x) (holds (flat_map definitions bs) x) h
in_flat (b ∷ bs) (suc d) x h = list_any-append (nat_eq x) (definitions b) (flat_map definitions bs) ∙ or_right (holds (definitions b) x) (holds (flat_map definitions bs) x) (in_flat bs d x h)

one_block : (bs : List Block) (x : ℕ) → Distinct (flat_map definitions bs) → (c d : ℕ) → defined_in (slice_get bs c) x ≡ true → defined_in (slice_get bs d) x ≡ true → c ≡ d
one_block [] x u c d g h = absurd (false≢true g)
one_block (b ∷ bs) x u zero zero g h = refl
one_block (b ∷ bs) x u zero (suc d) g h = absurd (distinct_apart (definitions b) (flat_map definitions bs) x u g (in_flat bs d x h))
one_block (b ∷ bs) x u (suc c) zero g h = absurd (distinct_apart (definitions b) (flat_map definitions bs) x u h (in_flat bs c x g))
one_block (b ∷ bs) x u (suc c) (suc d) g h = ap suc (one_block bs x (distinct_right (definitions b) (flat_map definitions bs) u) c d g h)

-- ---- before a line and in the block

skip_more : (o : Option ℕ) (xs ys : List ℕ) (x : ℕ) → (holds xs x ≡ true → holds ys x ≡ true) → holds (cons_option o xs) x ≡ true → holds (cons_option o ys) x ≡ true
skip_more None xs ys x f h = f h
skip_more (Some y) xs ys x f h =
    elim (or_cases (nat_eq x y) (holds xs x) h) [ inl e ↦ or_left (nat_eq x y) (holds ys x) e | inr r ↦ or_right (nat_eq x y) (holds ys x) (f r) ]

given_in : (ls : List Line) (k x : ℕ) → holds (results (take k ls)) x ≡ true → holds (results ls) x ≡ true
given_in [] zero x h = h
given_in [] (suc k) x h = h
given_in (l ∷ ls) zero x h = absurd (false≢true h)
given_in (l ∷ ls) (suc k) x h = skip_more l.local (results (take k ls)) (results ls) x (given_in ls k x) h

before_in : (o : Option Block) (k x : ℕ) → defined_before o k x ≡ true → defined_in o x ≡ true
before_in None k x h = absurd (false≢true h)
before_in (Some b) k x h =
    list_any-append (nat_eq x) (phi_locals b) (results b.lines)
    ∙ elim (or_cases (holds (phi_locals b) x) (holds (results (take k b.lines)) x) (sym (list_any-append (nat_eq x) (phi_locals b) (results (take k b.lines))) ∙ h)) [
      | inl p ↦ or_left (holds (phi_locals b) x) (holds (results b.lines) x) p
      | inr r ↦ or_right (holds (phi_locals b) x) (holds (results b.lines) x) (given_in b.lines k x r)
    ]

-- ---- parameters

holds_room : (xs : List ℕ) (x : ℕ) → holds xs x ≡ true → x < room xs
holds_room [] x h = absurd (false≢true h)
holds_room (y ∷ ys) x h =
    elim (or_cases (nat_eq x y) (holds ys x) h) [
      | inl e ↦ (let same : x ≡ y = eqb-true x y e in omega (arith, same))
      | inr r ↦ (let less : x < room ys = holds_room ys x r in omega arith)
    ]

module _ (f : Function) (x : ℕ) (h : holds (parameters f) x ≡ true) where
  everywhere : ℕ → ℕ → Bool
  everywhere b y = nat_eq y x && nat_lt b (length f.blocks)

  at_all : (y : ℕ) → y ≡ x → (ps : List ℕ) → ((p : ℕ) → Among p ps → p < length f.blocks) → AtEnds (availability f) everywhere y ps
  unfolding everywhere
  at_all y q [] below = tt
  at_all y q (p ∷ ps) below = (
    or_left (everywhere p y) (defined_in (slice_get f.blocks p) y) (and_from (nat_eq y x) (nat_lt p (length f.blocks)) (eq-eqb y x q) (lt-ltb p (length f.blocks) (below p (inl refl)))),
    at_all y q ps (λ r m. below r (inr m)),
  )

  tested : (b y : ℕ) → everywhere b y ≡ true → (nat_eq y x && nat_lt b (length f.blocks)) ≡ true
  unfolding everywhere
  tested b y m = m

  justified : IsJustified (availability f) everywhere
  justified b y m =
      let parts = and_parts (nat_eq y x) (nat_lt b (length f.blocks)) (tested b y m) in
      let same = eqb-true y x parts.0 in
      let small : x < room (locals f) = holds_room (locals f) x (list_any-append (nat_eq x) (parameters f) (flat_map definitions f.blocks) ∙ or_left (holds (parameters f) x) (holds (flat_map definitions f.blocks) x) h) in
      (ltb-true b (length f.blocks) parts.1, subst (λ (z : ℕ). z < room (locals f)) (sym same) small, by (nat_eq b 0) same)
    where
      by : (v : Bool) → y ≡ x → Justified (availability f) everywhere b y (cond v (Some (holds (parameters f))) None)
      by true q = ap (holds (parameters f)) q ∙ h
      by false q = at_all y q (edges f b) (λ p e. edge-from f b p e)

  -- a parameter is available in each block
  pub parameter_there : (b k : ℕ) → b < length f.blocks → AvailableAt f b k x
  unfolding everywhere
  parameter_there b k l = inl (everywhere, justified, and_from (nat_eq x x) (nat_lt b (length f.blocks)) (eq-eqb x x refl) (lt-ltb b (length f.blocks) l))

-- ---- locals at home in a block

pub home_inside : (f : Function) (t : Dominance) → AreDominators f t → (h : Home) (x : ℕ) → IsHome f h x → h.block < t.blocks
home_inside f t are h x is = let below : h.block < length f.blocks = got_below f.blocks h.block is.block is.got in omega (arith, below, are.count)

module _ (law : AvailableByDominance) (f : Function) (t : Dominance) (are : AreDominators f t) (once : Distinct (locals f)) (x : ℕ) (h : Home) (is : IsHome f h x) (b : ℕ) (l : b < length f.blocks) where
  pub home_below : h.block < length f.blocks
  home_below = got_below f.blocks h.block is.block is.got

  here : defined_in (slice_get f.blocks h.block) x ≡ true
  here = subst (λ (o : Option Block). defined_in o x ≡ true) (sym is.got) is.born.defined

  no_parameter : (v : Bool) → holds (parameters f) x ≡ v → v ≡ false
  no_parameter true e = absurd (distinct_apart (parameters f) (flat_map definitions f.blocks) x once e (in_flat f.blocks h.block x here))
  no_parameter false e = refl

  alone : IsDefinedIn f h.block x
  alone = record {
    here = here;
    only = λ c g. one_block f.blocks x (distinct_right (parameters f) (flat_map definitions f.blocks) once) c h.block g here;
    no_parameter = no_parameter (holds (parameters f) x) refl;
  }

  by_law : Available f b x ↔ (Reachable f b → Dominates f h.block b × (h.block ≢ b))
  by_law = law f t are h.block b x home_below l alone

  pub elsewhere : (k : ℕ) → h.block ≢ b → IsTrue (t.dominates h.block b) ↔ AvailableAt f b k x
  elsewhere k apart = (
    (λ d. inl (by_law.1 (λ r. ((are.exact h.block b (omega (arith, home_below, are.count)) (omega (arith, l, are.count))).0 d, apart)))),
    (λ a. elim a [
      | inl v ↦ (are.exact h.block b (omega (arith, home_below, are.count)) (omega (arith, l, are.count))).1 (λ ps p. (by_law.0 v (ps, p)).0 ps p)
      | inr d ↦ absurd (apart (sym (alone.only b (before_in (slice_get f.blocks b) k x d))))
    ]),
  )

  pub behind : (k : ℕ) → h.block ≡ b → h.after ≤ k → AvailableAt f b k x
  behind k e m = inr (subst (λ (o : Option Block). defined_before o k x ≡ true) (sym is.got ∙ ap (slice_get f.blocks) e) (is.born.here k m))

  pub unreached : (k : ℕ) → (Reachable f b → ⊥) → AvailableAt f b k x
  unreached k n = inl (by_law.1 (λ r. absurd (n r)))

  pub in_front : (k : ℕ) → h.block ≡ b → k < h.after → AvailableAt f b k x → Reachable f b → ⊥
  in_front k e m (inl v) r = (by_law.0 v r).1 e
  in_front k e m (inr d) r =
      let late = is.born.first k (subst (λ (o : Option Block). defined_before o k x ≡ true) (ap (slice_get f.blocks) (sym e) ∙ is.got) d) in
      omega (arith, late, m)

  pub in_home : (k : ℕ) → h.block ≡ b → k < h.after → (r : Bool) → r ≡ t.reached b → IsTrue (not r) ↔ AvailableAt f b k x
  in_home k e m r q = (
    (λ n. unreached k (λ p. false≢true (sym (not-true r n) ∙ q ∙ (are.reached b (omega (arith, l, are.count))).1 p))),
    (λ a. elim (cases_Bool r) [
      | inl y ↦ absurd (in_front k e m a ((are.reached b (omega (arith, l, are.count))).0 (sym q ∙ y)))
      | inr n ↦ not_from_false r n
    ]),
  )
