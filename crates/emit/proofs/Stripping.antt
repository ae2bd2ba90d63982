-- What is joined of all that units keep is joined of all their pieces.
use Rattle.std.proofs.Common.{◌≡◌, ◌∙◌, inl, inr, ◌&&◌, not, ℕ, zero, suc, Bool, true, false, cond, if◌then◌else◌, List, [], ◌∷◌, ◌++◌, filter, codes, Some, slice_get, refl, sym, ap, ap₂, subst}
use Rattle.std.proofs.lemmas.Bool.{and_parts, false≢true}
use Rattle.std.proofs.lemmas.Slice.Eq.{bytes_eq-Decides}
use Rattle.std.specs.List.{AllZip, Contains, flat_map}
use Rattle.std.specs.Str.{bytes_eq}
use Rattle.lto_task.specs.declared.piece.Piece.{Piece}
use Rattle.merge_meaning.proofs.Reordered.{contained, contains}
use Rattle.merge_meaning.proofs.Standing.{any_by, any_from, filter_from, first, first_or_later, in_filter, in_joined, joined_from, later, nothing}
use Rattle.emit.specs.Joins.{IsInNameOrder, IsJoin, IsUsed, asked, getchar_line, has_piece, host_lines, is_function, line_in_use, lines_of, putchar_line, referred_by}
use Rattle.emit.specs.Strips.{IsStripped, OfferEnough, StrippedIsJoin, ModulePieces}

inside : {X : Type 0} {x y : X} → Some x ≡ Some y → x ≡ y
inside e = cc

-- ---- tests on what is left of a list

filter_append : {X : Type 0} (p : X → Bool) (xs ys : List X) → filter p (xs ++ ys) ≡ (filter p xs ++ filter p ys)
filter_append p [] ys = refl
filter_append {X} p (x ∷ xs) ys = by (p x) (filter_append p xs ys)
  where
    by : (b : Bool) → filter p (xs ++ ys) ≡ (filter p xs ++ filter p ys) → cond b (x ∷ filter p (xs ++ ys)) (filter p (xs ++ ys)) ≡ (cond b (x ∷ filter p xs) (filter p xs) ++ filter p ys)
    by true e = ap (λ (l : List X). x ∷ l) e
    by false e = e

-- what passes the first test passes the second, so it doesn't matter that the second one was asked
filter_twice : {X : Type 0} (p q : X → Bool) (xs : List X) → ((x : X) → Contains xs x → p x ≡ true → q x ≡ true) → filter p (filter q xs) ≡ filter p xs
filter_twice p q [] so = refl
filter_twice {X} p q (x ∷ xs) so = by (q x) refl (p x) refl (filter_twice p q xs (λ y there. so y (later x y xs there)))
  where
    by : (b : Bool) → q x ≡ b → (c : Bool) → p x ≡ c → filter p (filter q xs) ≡ filter p xs → filter p (cond b (x ∷ filter q xs) (filter q xs)) ≡ cond c (x ∷ filter p xs) (filter p xs)
    by true e true f rest = ap (λ (d : Bool). cond d (x ∷ filter p (filter q xs)) (filter p (filter q xs))) f ∙ ap (λ (l : List X). x ∷ l) rest
    by true e false f rest = ap (λ (d : Bool). cond d (x ∷ filter p (filter q xs)) (filter p (filter q xs))) f ∙ rest
    by false e true f rest = absurd (false≢true (sym e ∙ so x (first x xs) f))
    by false e false f rest = rest

abbrev all_of : List ModulePieces → List Piece
all_of units = flat_map (λ u. u.pieces) units

abbrev left_of : List (List Piece) → List Piece
left_of kept = flat_map (λ ps. ps) kept

-- what each unit keeps has all that passes a test, where what passes is kept
filtered : (p : Piece → Bool) (units : List ModulePieces) (kept : List (List Piece)) → AllZip IsStripped units kept
    → ((u : ModulePieces) (ks : List Piece) (s : IsStripped u ks) (x : Piece) → Contains units u → Contains u.pieces x → p x ≡ true → s.keeps x.name ≡ true)
    → filter p (left_of kept) ≡ filter p (all_of units)
filtered p [] [] z so = refl
filtered p [] (ks ∷ kept) z so = absurd z
filtered p (u ∷ units) [] z so = absurd z
filtered p (u ∷ units) (ks ∷ kept) z so =
    filter_append p ks (left_of kept)
    ∙ ap₂ (λ (a b : List Piece). a ++ b)
    (ap (filter p) z.0.is ∙ filter_twice p (λ x. z.0.keeps x.name) u.pieces (λ x there on. so u ks z.0 x (first u units) there on))
    (filtered p units kept z.1 (λ v ls s x at there on. so v ls s x (later u v units at) there on))
    ∙ sym (filter_append p u.pieces (all_of units))

-- ---- places

-- what a unit keeps stands at its place
kept_at : (units : List ModulePieces) (kept : List (List Piece)) → AllZip IsStripped units kept → (i : ℕ) (u : ModulePieces) → slice_get units i ≡ Some u
    → (ks : List Piece) × Contains kept ks × IsStripped u ks
kept_at [] kept z i u at = absurd (cc at)
kept_at (v ∷ units) [] z i u at = absurd z
kept_at (v ∷ units) (ks ∷ kept) z zero u at = let same : v ≡ u = inside at in (ks, first ks kept, subst (λ (w : ModulePieces). IsStripped w ks) same z.0)
kept_at (v ∷ units) (ks ∷ kept) z (suc i) u at = let rest = kept_at units kept z.1 i u at in (rest.0, later ks rest.0 kept rest.1, rest.2)

-- and each piece that is kept is one of the unit's
left_from : (units : List ModulePieces) (kept : List (List Piece)) → AllZip IsStripped units kept → (p : Piece) → Contains (left_of kept) p → Contains (all_of units) p
left_from units kept z p there =
    let found = joined_from (λ (ks : List Piece). ks) kept p there in
    by units kept z found.0 found.1 found.2
  where
    by : (units : List ModulePieces) (kept : List (List Piece)) → AllZip IsStripped units kept → (ks : List Piece) → Contains kept ks → Contains ks p → Contains (all_of units) p
    by [] [] z ks at here = absurd (nothing ks at)
    by [] (ls ∷ kept) z ks at here = absurd z
    by (u ∷ units) [] z ks at here = absurd z
    by (u ∷ units) (ls ∷ kept) z ks at here = elim (first_or_later ls ks kept at) [
      | inl same ↦
          in_joined (λ (v : ModulePieces). v.pieces) (u ∷ units) u p (first u units)
          (filter_from (λ (x : Piece). z.0.keeps x.name) u.pieces p (subst (λ (l : List Piece). Contains l p) (sym same ∙ z.0.is) here)).0
      | inr more ↦
          let rest = joined_from (λ (v : ModulePieces). v.pieces) units p (by units kept z.1 ks more here) in
          in_joined (λ (v : ModulePieces). v.pieces) (u ∷ units) rest.0 p (later u rest.0 units rest.1) rest.2
    ]

-- ---- what is used

module _ (exports : List (List ℕ)) (units : List ModulePieces) (kept : List (List Piece)) (offer : OfferEnough exports units) (z : AllZip IsStripped units kept) where
  -- a unit reaches what the whole link reaches of it
  abbrev Reached : List ℕ → Type 0
  Reached name = (i : ℕ) (u : ModulePieces) (q : Piece) → slice_get units i ≡ Some u → Contains u.pieces q → q.name ≡ name → IsUsed u.offers u.pieces name

  stays : (name : List ℕ) → IsUsed exports (all_of units) name → IsUsed exports (left_of kept) name × Reached name
  stays name (asked _ h) = (
    asked name h,
    λ i u q at there same. asked name (subst (Contains u.offers) same (offer.exported u q (contains units i u at) there (subst (Contains exports) (sym same) h))),
  )
  stays name (referred_by p _ there used refers) =
      let before = stays p.name used in
      let from = joined_from (λ (v : ModulePieces). v.pieces) units p there in
      let at : slice_get units from.1.0 ≡ Some from.0 = contained units from.1.0 from.0 from.1.1 from.1.2 in
      let here : IsUsed from.0.offers from.0.pieces p.name = before.1 from.1.0 from.0 p at from.2 refl in
      let keep = kept_at units kept z from.1.0 from.0 at in
      let left : Contains (left_of kept) p =
      in_joined (λ (ks : List Piece). ks) kept keep.0 p keep.1
      (subst (λ (l : List Piece). Contains l p) (sym keep.2.is) (in_filter (λ (x : Piece). keep.2.keeps x.name) from.0.pieces p from.2 ((keep.2.reached p.name).1 here))) in (
        referred_by p name left before.0 refers,
        λ k v q at_k mine same.
            elim (offer.referred from.1.0 k from.0 v p q at at_k from.2 mine (subst (Contains p.refs) (sym same) refers)) [
              | inl one ↦
                  let unit : from.0 ≡ v = inside (sym at ∙ subst (λ (n : ℕ). slice_get units n ≡ Some v) (sym one) at_k) in
                  referred_by p name (subst (λ (w : ModulePieces). Contains w.pieces p) unit from.2) (subst (λ (w : ModulePieces). IsUsed w.offers w.pieces p.name) unit here) refers
              | inr offered ↦ asked name (subst (Contains v.offers) same offered)
            ],
      )

  fewer : (name : List ℕ) → IsUsed exports (left_of kept) name → IsUsed exports (all_of units) name
  fewer name (asked _ h) = asked name h
  fewer name (referred_by p _ there used refers) = referred_by p name (left_from units kept z p there) (fewer p.name used) refers

  module _ (header text : List ℕ) (j : IsJoin exports (left_of kept) header text) where
    -- a piece whose name is kept is one that its unit keeps
    keeps_so : (u : ModulePieces) (ks : List Piece) (s : IsStripped u ks) (x : Piece) → Contains units u → Contains u.pieces x → j.keeps x.name ≡ true → s.keeps x.name ≡ true
    keeps_so u ks s x at there on =
        (s.reached x.name).1 ((stays x.name (fewer x.name ((j.kept x.name).0 on))).1 at.0 u x (contained units at.0 u at.1 at.2) there refl)

    group_same : (such : Piece → Bool) → filter (λ p. j.keeps p.name && such p) (left_of kept) ≡ filter (λ p. j.keeps p.name && such p) (all_of units)
    group_same such =
        filtered (λ p. j.keeps p.name && such p) units kept z (λ u ks s x at there on. keeps_so u ks s x at there (and_parts (j.keeps x.name) (such x) on).0)

    has_same : (name : List ℕ) → j.keeps name ≡ true → has_piece (left_of kept) name ≡ has_piece (all_of units) name
    has_same name on = by (has_piece (left_of kept) name) refl (has_piece (all_of units) name) refl
      where
        few_all : has_piece (left_of kept) name ≡ true → has_piece (all_of units) name ≡ true
        few_all h =
            let found = any_from (λ (p : Piece). bytes_eq p.name name) (left_of kept) h in
            any_by (λ (p : Piece). bytes_eq p.name name) (all_of units) found.0 (left_from units kept z found.0 found.1) found.2

        all_few : has_piece (all_of units) name ≡ true → has_piece (left_of kept) name ≡ true
        all_few h =
            let found = any_from (λ (p : Piece). bytes_eq p.name name) (all_of units) h in
            let from = joined_from (λ (v : ModulePieces). v.pieces) units found.0 found.1 in
            let keep = kept_at units kept z from.1.0 from.0 (contained units from.1.0 from.0 from.1.1 from.1.2) in
            let same : found.0.name ≡ name = (bytes_eq-Decides found.0.name name).0 found.2 in
            let stays_on : keep.2.keeps found.0.name ≡ true = keeps_so from.0 keep.0 keep.2 found.0 from.1 from.2 (ap j.keeps same ∙ on) in
            any_by (λ (p : Piece). bytes_eq p.name name) (left_of kept) found.0
            (in_joined (λ (ks : List Piece). ks) kept keep.0 found.0 keep.1
            (subst (λ (l : List Piece). Contains l found.0) (sym keep.2.is) (in_filter (λ (x : Piece). keep.2.keeps x.name) from.0.pieces found.0 from.2 stays_on)))
            found.2

        by : (a : Bool) → has_piece (left_of kept) name ≡ a → (b : Bool) → has_piece (all_of units) name ≡ b → has_piece (left_of kept) name ≡ has_piece (all_of units) name
        by true e b f = e ∙ sym (few_all e)
        by false e false f = e ∙ sym f
        by false e true f = absurd (false≢true (sym e ∙ all_few f))

    line_same : (name line : List ℕ) → line_in_use j.keeps (left_of kept) name line ≡ line_in_use j.keeps (all_of units) name line
    line_same name line = by (j.keeps name) refl
      where
        by : (b : Bool) → j.keeps name ≡ b → line_in_use j.keeps (left_of kept) name line ≡ line_in_use j.keeps (all_of units) name line
        by true e = ap (λ (h : Bool). if j.keeps name && not h then line else []) (has_same name e)
        by false e =
            ap (λ (k : Bool). if k && not (has_piece (left_of kept) name) then line else []) e
            ∙ sym (ap (λ (k : Bool). if k && not (has_piece (all_of units) name) then line else []) e)

    hosts_same : host_lines j.keeps (left_of kept) ≡ host_lines j.keeps (all_of units)
    hosts_same = ap₂ (λ (a b : List ℕ). a ++ b) (line_same (codes "getchar") getchar_line) (line_same (codes "putchar") putchar_line)

    joined : IsJoin exports (all_of units) header text
    joined = record {
      keeps = j.keeps;
      kept = λ name. (λ on. fewer name ((j.kept name).0 on), λ used. (j.kept name).1 (stays name used).0);
      variables = j.variables;
      variables_are = subst (λ (ps : List Piece). IsInNameOrder ps j.variables) (group_same (λ p. not (is_function p))) j.variables_are;
      functions = j.functions;
      functions_are = subst (λ (ps : List Piece). IsInNameOrder ps j.functions) (group_same is_function) j.functions_are;
      is = j.is ∙ ap (λ (h : List ℕ). header ++ (lines_of j.variables ++ (h ++ lines_of j.functions))) hosts_same;
    }

pub stripped_is_join : StrippedIsJoin
stripped_is_join exports units kept header text offer z j = joined exports units kept offer z header text j
