-- Names that stand once in a list.
use Rattle.std.proofs.Common.{◌≡◌, ◌≢◌, ◌∙◌, inl, inr, ◌<◌, ℕ, zero, suc, Bool, true, false, cond, List, [], ◌∷◌, ◌++◌, filter, map, get_or, Option, Some, None, option_map, slice_get, refl, sym, ap, subst, arith}
use Rattle.std.specs.List.{AllPairs, Contains, cons_option}
use Rattle.std.specs.List.Sorted.{IsPermutation}
use Rattle.std.specs.Prelude.{filter_map, slice_index_or}
use Rattle.std.specs.Cmp.Lexicographic.{slice_cmp}
use Rattle.std.specs.Ordering.{eq_by_cmp, nat_cmp}
use Rattle.std.specs.Str.{bytes_eq}
use Rattle.std.proofs.lemmas.Bool.{cases_order}
use Rattle.std.proofs.lemmas.Cmp.{eq_by_cmp_equiv, nat_list_cmp_total, nat_list_eq_equiv}
use Rattle.std.proofs.lemmas.List.{map-append}
use Rattle.std.proofs.lemmas.Map.Keys.{IsDistinct-IsPermutation, IsDistinct-from_sorted, apart_from_distinct}
use Rattle.std.proofs.lemmas.Map.Made.{AllPairs-from_IsDistinct, IsDistinct-from_AllPairs}
use Rattle.std.proofs.lemmas.Option.{get_or_from_slice_get, slice_get-get_or, slice_get_within}
use Rattle.std.proofs.lemmas.Slice.Eq.{bytes_eq-Decides}
use Rattle.ir_tree.specs.Formed.{Distinct}
use Rattle.ir_tree.specs.Wholes.{symbols}
use Rattle.ir_tree.specs.declared.module.GlobalValue.{GlobalValue}
use Rattle.ir_tree.specs.declared.operand.Symbol.{Symbol}
use Rattle.ir_meaning.specs.Programs.{symbol_of}
use Rattle.lto_task.specs.Pieces.{NamesRise}
use Rattle.merge_meaning.proofs.Looked.{same_symbol, symbol_stands}
use Rattle.merge_meaning.proofs.Once.{mapped}
use Rattle.merge_meaning.proofs.Names.{clash}
use Rattle.merge_meaning.proofs.Prevailing.{symbol_by_parts}
use Rattle.merge_meaning.proofs.Standing.{filter_from, first, in_map, later, map_from}
use Rattle.importer.specs.Brought.{joined}
use Rattle.importer.specs.Tasks.{name_of}
use Rattle.importer.proofs.Members.{Stands, at_first, contained, either_part, further, standing}
use Rattle.importer.proofs.Found.{found_from}

-- ---- lists

distinct_more : {X : Type 0} (x : X) (xs : List X) → (Stands xs x → ⊥) → Distinct xs → Distinct (x ∷ xs)
distinct_more x xs new once zero zero y a b = refl
distinct_more x xs new once zero (suc j) y a b = absurd (new (j, b ∙ sym a))
distinct_more x xs new once (suc i) zero y a b = absurd (new (i, a ∙ sym b))
distinct_more x xs new once (suc i) (suc j) y a b = ap suc (once i j y a b)

distinct_rest : {X : Type 0} (x : X) (xs : List X) → Distinct (x ∷ xs) → Distinct xs
distinct_rest x xs once i j y a b = let same : suc i ≡ suc j = once (suc i) (suc j) y a b in cc same

not_again : {X : Type 0} (x : X) (xs : List X) → Distinct (x ∷ xs) → Stands xs x → ⊥
not_again x xs once s = let same : 0 ≡ suc s.0 = once 0 (suc s.0) x refl s.1 in cc same

pub distinct_append : {X : Type 0} (xs ys : List X) → Distinct xs → Distinct ys → ((x : X) → Stands xs x → Stands ys x → ⊥) → Distinct (xs ++ ys)
distinct_append [] ys once others apart = others
distinct_append (x ∷ xs) ys once others apart =
    distinct_more x (xs ++ ys) (λ s. elim (either_part xs ys x s) [ inl h ↦ not_again x xs once h | inr h ↦ apart x (at_first x xs) h ])
    (distinct_append xs ys (distinct_rest x xs once) others (λ y s t. apart y (further x xs y s) t))

in_front_at : {X : Type 0} (xs ys : List X) (i : ℕ) (x : X) → slice_get xs i ≡ Some x → slice_get (xs ++ ys) i ≡ Some x
in_front_at [] ys i x e = absurd (cc e)
in_front_at (y ∷ xs) ys zero x e = e
in_front_at (y ∷ xs) ys (suc i) x e = in_front_at xs ys i x e

pub distinct_first : {X : Type 0} (xs ys : List X) → Distinct (xs ++ ys) → Distinct xs
distinct_first xs ys once i j x a b = once i j x (in_front_at xs ys i x a) (in_front_at xs ys j x b)

pub distinct_second : {X : Type 0} (xs ys : List X) → Distinct (xs ++ ys) → Distinct ys
distinct_second [] ys once = once
distinct_second (x ∷ xs) ys once = distinct_second xs ys (distinct_rest x (xs ++ ys) once)

pub distinct_from_pairs : {X : Type 0} (xs : List X) → AllPairs (λ x y. x ≢ y) xs → Distinct xs
distinct_from_pairs xs pairs i j x a b = elim (cases_order i j) [
  | inl same ↦ same
  | inr apart ↦ absurd (elim apart [ inl less ↦ differ i j a b less | inr more ↦ differ j i b a more ])
]
  where
    differ : (m n : ℕ) → slice_get xs m ≡ Some x → slice_get xs n ≡ Some x → m < n → ⊥
    differ m n at_m at_n less = pairs m n x less (slice_get_within xs n x at_n) (get_or_from_slice_get xs m x x at_m ∙ sym (get_or_from_slice_get xs n x x at_n))

pairs_from_distinct : {X : Type 0} (xs : List X) → Distinct xs → AllPairs (λ x y. x ≢ y) xs
pairs_from_distinct xs once i j d less within same =
    let at_i : slice_get xs i ≡ Some (get_or xs i d) = slice_get-get_or xs i d (omega (arith, less, within)) in
    let at_j : slice_get xs j ≡ Some (get_or xs i d) = slice_get-get_or xs j d within ∙ ap Some (sym same) in
    let one : i ≡ j = once i j (get_or xs i d) at_i at_j in
    omega (arith, one, less)

-- what is found of elements that stand once, no two of which have one name, stands once by its names
pub distinct_found : {X Y Z : Type 0} (h : X → Option Y) (name : Y → Z) (xs : List X) → Distinct xs
    → ((a b : X) (y z : Y) → Contains xs a → Contains xs b → h a ≡ Some y → h b ≡ Some z → name y ≡ name z → a ≡ b) → Distinct (map name (filter_map h xs))
distinct_found h name [] once apart = λ i j x a b. absurd (cc a)
distinct_found {X} {Y} h name (x ∷ xs) once apart =
    by (h x) refl (distinct_found h name xs (distinct_rest x xs once) (λ a b y z c d. apart a b y z (later x a xs c) (later x b xs d)))
  where
    new : (y : Y) → h x ≡ Some y → Stands (map name (filter_map h xs)) (name y) → ⊥
    new y is s =
        let z = map_from name (filter_map h xs) (name y) (contained (map name (filter_map h xs)) (name y) s) in
        let b = found_from h xs z.0 z.1 in
        let same : x ≡ b.0 = apart x b.0 y z.0 (first x xs) (later x b.0 xs b.1) is b.2 (sym z.2) in
        not_again x xs once (b.1.0, slice_get-get_or xs b.1.0 b.0 b.1.1 ∙ ap Some (b.1.2 ∙ sym same))

    by : (o : Option Y) → h x ≡ o → Distinct (map name (filter_map h xs)) → Distinct (map name (cons_option o (filter_map h xs)))
    by None is rest = rest
    by (Some y) is rest = distinct_more (name y) (map name (filter_map h xs)) (new y is) rest

-- and so does what is kept of elements whose names stand once
pub distinct_kept : {X Y : Type 0} (name : X → Y) (p : X → Bool) (xs : List X) → Distinct (map name xs) → Distinct (map name (filter p xs))
distinct_kept name p [] once = λ i j x a b. absurd (cc a)
distinct_kept name p (x ∷ xs) once = by (p x) (distinct_kept name p xs (distinct_rest (name x) (map name xs) once))
  where
    new : Stands (map name (filter p xs)) (name x) → ⊥
    new s =
        let y = map_from name (filter p xs) (name x) (contained (map name (filter p xs)) (name x) s) in
        not_again (name x) (map name xs) once (standing (map name xs) (name x) (subst (Contains (map name xs)) y.2 (in_map name xs y.0 (filter_from p xs y.0 y.1).0)))

    by : (b : Bool) → Distinct (map name (filter p xs)) → Distinct (map name (cond b (x ∷ filter p xs) (filter p xs)))
    by true rest = distinct_more (name x) (map name (filter p xs)) new rest
    by false rest = rest

-- ---- names

pub rising_once : (names : List (List ℕ)) → NamesRise names → Distinct names
rising_once names up =
    distinct_from_pairs names
    (λ i j d less within same.
    clash (eq_by_cmp (slice_cmp nat_cmp) (get_or names i d) (get_or names j d))
    (apart_from_distinct (eq_by_cmp (slice_cmp nat_cmp)) names i j d (IsDistinct-from_sorted (slice_cmp nat_cmp) names up) less within)
    (ap (eq_by_cmp (slice_cmp nat_cmp) (get_or names i d)) (sym same) ∙ (eq_by_cmp_equiv nat_list_cmp_total).refl (get_or names i d)))

pub moved_once : (xs ys : List (List ℕ)) → IsPermutation xs ys → Distinct xs → Distinct ys
moved_once xs ys moved once =
    distinct_from_pairs ys
    (AllPairs-from_IsDistinct bytes_eq-Decides ys
    (IsDistinct-IsPermutation bytes_eq nat_list_eq_equiv.symm xs ys moved (IsDistinct-from_AllPairs bytes_eq-Decides xs (pairs_from_distinct xs once))))

-- ---- names of values

name_at : (gs : List GlobalValue) (i : ℕ) (s : Symbol) → slice_get (symbols gs) i ≡ Some s → slice_get (map name_of gs) i ≡ Some s.name
name_at [] i s e = absurd (cc e)
name_at (g ∷ gs) zero s e = ap (option_map (λ (u : Symbol). u.name)) (ap Some (same_symbol g) ∙ e)
name_at (g ∷ gs) (suc i) s e = name_at gs i s e

-- values whose names stand once have symbols that do
pub symbols_once : (gs : List GlobalValue) → Distinct (map name_of gs) → Distinct (symbols gs)
symbols_once gs once i j s a b = once i j s.name (name_at gs i s a) (name_at gs j s b)

-- and the other way round, where symbols have no home
pub names_once : (gs : List GlobalValue) → ((g : GlobalValue) → Stands gs g → (symbol_of g).home ≡ None) → Distinct (symbols gs) → Distinct (map name_of gs)
names_once gs homeless once i j name a b =
    let g = mapped name_of gs i name a in
    let h = mapped name_of gs j name b in
    let same : symbol_of g.0 ≡ symbol_of h.0 = symbol_by_parts (symbol_of g.0) (symbol_of h.0) (homeless g.0 (i, g.1) ∙ sym (homeless h.0 (j, h.1))) (g.2 ∙ sym h.2) in
    once i j (symbol_of g.0) (symbol_stands gs i g.0 g.1) (symbol_stands gs j h.0 h.1 ∙ ap Some (sym same))

-- names that stand once among all stand once in each part
pub part_once : (parts : List (List GlobalValue)) (k : ℕ) → Distinct (map name_of (joined parts)) → Distinct (map name_of (slice_index_or parts k []))
part_once [] k once = once
part_once (part ∷ parts) zero once = distinct_first (map name_of part) (map name_of (joined parts)) (subst Distinct (map-append name_of part (joined parts)) once)
part_once (part ∷ parts) (suc k) once = part_once parts k (distinct_second (map name_of part) (map name_of (joined parts)) (subst Distinct (map-append name_of part (joined parts)) once))
