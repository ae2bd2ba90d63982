-- What blocks define before and after a join, and the types of it.
use Rattle.std.proofs.Common.{◌≡◌, ℕ, zero, suc, ◌+◌, ◌≤◌, ◌<◌, max, nat_eq, Bool, true, false, ◌||◌, ◌⊎◌, inl, inr, List, [], ◌∷◌, ◌++◌, map, option_map, Option, Some, None, get_or, refl, sym, ◌∙◌, ap, subst, arith, if◌then◌else◌}
use Rattle.std.specs.Prelude.{All, slice_get, flat_map, filter_map}
use Rattle.std.specs.List.{cons_option}
use Rattle.std.proofs.lemmas.Bool.{eq-eqb, eqb-true, eqb-false, ne_eqb, or_cases, or_left, or_right}
use Rattle.std.proofs.lemmas.List.{map-append}
use Rattle.std.proofs.lemmas.List.Elements.{All-append, All-head, All-nil, All-tail, filter_map-append}
use Rattle.std.proofs.lemmas.List.Folds.{list_any-append}
use Rattle.std.proofs.lemmas.Option.{slice_get-get_or, slice_get-map}
use Rattle.std.proofs.lemmas.Simd.{map-map}
use Rattle.ir_tree.specs.Flow.{definitions, holds, locals, parameters, phi_locals, results, room}
use Rattle.ir_tree.specs.Formed.{Distinct, OperandFormed, numbers}
use Rattle.ir_tree.specs.Rules.{Typing, block_typings, line_typing, result_type, type_of, typing, typings}
use Rattle.ir_tree.specs.declared.block.Block.{Block}
use Rattle.ir_tree.specs.declared.function.Function.{Function}
use Rattle.ir_tree.specs.declared.function.Param.{Param}
use Rattle.ir_tree.specs.declared.instr.Line.{Line}
use Rattle.ir_tree.specs.declared.instr.Phi.{Phi}
use Rattle.ir_tree.specs.declared.operand.Operand.{Operand}
use Rattle.ir_tree.specs.declared.operand.Operand.TheVariants as operand
use Rattle.ir_edit.proofs.Tally.{distinct_less, tally, tally_both}
use Rattle.ir_meaning.proofs.Counting.{distinct_rest, not_again, numbers_in}
use Rattle.ir_meaning.proofs.Everywhere.{all_back, all_front}
use Rattle.block_trim.specs.Merged.{CanJoin, joined, joined_block, joined_blocks, phi_named, renamed}
use Rattle.block_trim.specs.Working.{IsNumber}
use Rattle.block_trim.proofs.Fitting.{Fits}
use Rattle.block_trim.proofs.Moved.{Stays, first, is_second, second, stays_from}
use Rattle.block_trim.proofs.Weights.{weigh, weigh_changed}

-- ---- members

pub holds_more : (x : ℕ) (as' bs cs ds : List ℕ) → (holds as' x ≡ true → holds cs x ≡ true) → (holds bs x ≡ true → holds ds x ≡ true) → holds (as' ++ bs) x ≡ true → holds (cs ++ ds) x ≡ true
holds_more x as' bs cs ds f g h = list_any-append (nat_eq x) cs ds ∙ by (or_cases (holds as' x) (holds bs x) (sym (list_any-append (nat_eq x) as' bs) ∙ h))
  where
    by : (holds as' x ≡ true) ⊎ (holds bs x ≡ true) → (holds cs x || holds ds x) ≡ true
    by (inl e) = or_left (holds cs x) (holds ds x) (f e)
    by (inr e) = or_right (holds cs x) (holds ds x) (g e)

below_room : (x : ℕ) (xs : List ℕ) → holds xs x ≡ true → x < room xs
below_room x [] h = absurd cc
below_room x (y ∷ ys) h = at (or_cases (nat_eq x y) (holds ys x) h) (below_room x ys)
  where
    at : (nat_eq x y ≡ true) ⊎ (holds ys x ≡ true) → (holds ys x ≡ true → x < room ys) → x < max (suc y) (room ys)
    at (inl e) more = let same : x ≡ y = eqb-true x y e in omega (arith, same)
    at (inr g) more = let lt : x < room ys = more g in omega (arith, lt)

room_less : (xs ys : List ℕ) → ((x : ℕ) → holds xs x ≡ true → holds ys x ≡ true) → room xs ≤ room ys
room_less [] ys h = omega arith
room_less (x ∷ xs) ys h =
    let one : x < room ys = below_room x ys (h x (or_left (nat_eq x x) (holds xs x) (eq-eqb x x refl))) in
    let rest : room xs ≤ room ys = room_less xs ys (λ z e. h z (or_right (nat_eq z x) (holds xs z) e)) in
    omega (arith, one, rest)

-- what holds of all that blocks give, block by block
all_of : {X : Type 0} (P : X → Type 0) (F : Block → List X) (bs : List Block) → All P (flat_map F bs) → (i : ℕ) (b : Block) → slice_get bs i ≡ Some b → All P (F b)
all_of P F [] h i b e = absurd cc
all_of P F (x ∷ bs) h zero b e = let same : x ≡ b = cc e in subst (λ (z : Block). All P (F z)) same (all_front P (F x) (flat_map F bs) h)
all_of P F (x ∷ bs) h (suc i) b e = all_of P F bs (all_back P (F x) (flat_map F bs) h) i b e

all_each : {X : Type 0} (P : X → Type 0) (F : Block → List X) (bs : List Block) → ((i : ℕ) (b : Block) → slice_get bs i ≡ Some b → All P (F b)) → All P (flat_map F bs)
all_each P F [] h = All-nil P
all_each P F (b ∷ bs) h = All-append P (F b) (flat_map F bs) (h 0 b refl) (all_each P F bs (λ i c e. h (suc i) c e))

-- ---- types that are found

abbrev names_of : List Typing → List ℕ
names_of ts = map {A = Typing} {B = ℕ} (λ t. t.0) ts

abbrev Found : List Typing → Typing → Type 0
Found us t = (holds (names_of us) t.0 ≡ true) × (typing us t.0 ≡ t.1)

name_at : (us : List Typing) (i : ℕ) (t : Typing) → slice_get us i ≡ Some t → slice_get (names_of us) i ≡ Some t.0
name_at us i t e = slice_get-map {A = Typing} {B = ℕ} (λ v. v.0) us i ∙ ap (option_map (λ (v : Typing). v.0)) e

-- where each local is defined once, each of its types is the one that is found
found_at : (us : List Typing) → Distinct (names_of us) → (i : ℕ) (t : Typing) → slice_get us i ≡ Some t → Found us t
found_at [] d i t e = absurd cc
found_at (u ∷ us) d zero t e =
    let same : u ≡ t = cc e in
    let is : u.0 ≡ t.0 = ap (λ (v : Typing). v.0) same in (
      or_left (nat_eq t.0 u.0) (holds (names_of us) t.0) (eq-eqb t.0 u.0 (sym is)),
      ap (λ (b : Bool). if b then u.1 else typing us t.0) (eq-eqb u.0 t.0 is) ∙ ap (λ (v : Typing). v.1) same,
    )
found_at (u ∷ us) d (suc i) t e =
    let more : Found us t = found_at us (distinct_rest u.0 (names_of us) d) i t e in (
      or_right (nat_eq t.0 u.0) (holds (names_of us) t.0) more.0,
      ap (λ (b : Bool). if b then u.1 else typing us t.0) (not_again u.0 (names_of us) d i t.0 (name_at us i t e)) ∙ more.1,
    )

found_all : (us : List Typing) → Distinct (names_of us) → All (Found us) us
found_all us d = λ k z lt. found_at us d k (get_or us k z) (slice_get-get_or us k z lt)

-- a local has the same type among these and those, where all of these are found among those
found_as : (us ts : List Typing) → All (Found us) ts → (x : ℕ) → holds (names_of ts) x ≡ true → (holds (names_of us) x ≡ true) × (typing us x ≡ typing ts x)
found_as us [] h x e = absurd cc
found_as us (t ∷ ts) h x e = by (nat_eq t.0 x) refl (found_as us ts (All-tail (Found us) t ts h) x)
  where
    head : Found us t
    head = All-head (Found us) t ts h

    rest : nat_eq t.0 x ≡ false → (nat_eq x t.0 ≡ true) ⊎ (holds (names_of ts) x ≡ true) → holds (names_of ts) x ≡ true
    rest other (inl s) = absurd (eqb-false t.0 x other (sym (eqb-true x t.0 s)))
    rest other (inr g) = g

    by : (b : Bool) → nat_eq t.0 x ≡ b → (holds (names_of ts) x ≡ true → (holds (names_of us) x ≡ true) × (typing us x ≡ typing ts x)) → (holds (names_of us) x ≡ true) × (typing us x ≡ (if b then t.1 else typing ts x))
    by true same more =
        let is : t.0 ≡ x = eqb-true t.0 x same in
        (subst (λ (z : ℕ). holds (names_of us) z ≡ true) is head.0, subst (λ (z : ℕ). typing us z ≡ t.1) is head.1)
    by false other more = more (rest other (or_cases (nat_eq x t.0) (holds (names_of ts) x) e))

-- ---- the names in a function's types are its locals

names_of_lines : (ls : List Line) → names_of (filter_map line_typing ls) ≡ results ls
names_of_lines [] = refl
names_of_lines (l ∷ ls) = by l.local (names_of_lines ls)
  where
    by : (o : Option ℕ) → names_of (filter_map line_typing ls) ≡ results ls → names_of (cons_option (option_map (λ x. (x, result_type l.instr)) o) (filter_map line_typing ls)) ≡ cons_option o (results ls)
    by None h = h
    by (Some x) h = ap (λ (xs : List ℕ). x ∷ xs) h

names_of_block : (b : Block) → names_of (block_typings b) ≡ definitions b
names_of_block b =
    map-append {A = Typing} {B = ℕ} (λ t. t.0) (map {B = Typing} (λ p. (p.local, Some p.reg)) b.phis) (filter_map line_typing b.lines)
    ∙ (λ i. map-map {A = Phi} {B = Typing} {C = ℕ} (λ t. t.0) (λ p. (p.local, Some p.reg)) b.phis i ++ names_of_lines b.lines i)

names_of_blocks : (bs : List Block) → names_of (flat_map block_typings bs) ≡ flat_map definitions bs
names_of_blocks [] = refl
names_of_blocks (b ∷ bs) = map-append {A = Typing} {B = ℕ} (λ t. t.0) (block_typings b) (flat_map block_typings bs) ∙ (λ i. names_of_block b i ++ names_of_blocks bs i)

names_typed : (f : Function) → names_of (typings f) ≡ locals f
names_typed f =
    map-append {A = Typing} {B = ℕ} (λ t. t.0) (map {B = Typing} (λ p. (p.local, Some p.reg)) f.params) (flat_map block_typings f.blocks)
    ∙ (λ i. map-map {A = Param} {B = Typing} {C = ℕ} (λ t. t.0) (λ p. (p.local, Some p.reg)) f.params i ++ names_of_blocks f.blocks i)

-- ---- what a joined block defines

module _ (a : ℕ) (y : Block) where
  pub phi_locals_stay : (b : Block) → phi_locals (joined_block a y b) ≡ phi_locals b
  phi_locals_stay b = map-map {A = Phi} {B = Phi} {C = ℕ} (λ p. p.local) (phi_named (renamed y.number a)) b.phis

  phi_typings_stay : (b : Block) → map {B = Typing} (λ p. (p.local, Some p.reg)) (map (phi_named (renamed y.number a)) b.phis) ≡ map {B = Typing} (λ p. (p.local, Some p.reg)) b.phis
  phi_typings_stay b = map-map {A = Phi} {B = Phi} {C = Typing} (λ p. (p.local, Some p.reg)) (phi_named (renamed y.number a)) b.phis

  pub results_both : (ls ms : List Line) → results (ls ++ ms) ≡ results ls ++ results ms
  results_both ls ms = filter_map-append (λ (l : Line). l.local) ls ms

  -- it defines what it defined
  pub still_defined : (x : ℕ) (b : Block) → holds (definitions b) x ≡ true → holds (definitions (joined_block a y b)) x ≡ true
  still_defined x b =
      holds_more x (phi_locals b) (results b.lines) (phi_locals (joined_block a y b)) (results (joined_block a y b).lines) (λ h. ap (λ (l : List ℕ). holds l x) (phi_locals_stay b) ∙ h) (by (nat_eq a b.number))
    where
      by : (t : Bool) → holds (results b.lines) x ≡ true → holds (results (if t then b.lines ++ y.lines else b.lines)) x ≡ true
      by true h = ap (λ (l : List ℕ). holds l x) (results_both b.lines y.lines) ∙ list_any-append (nat_eq x) (results b.lines) (results y.lines) ∙ or_left (holds (results b.lines) x) (holds (results y.lines) x) h
      by false h = h

  module _ (x : ℕ) where
    abbrev more : Bool → ℕ
    more t = if t then tally x (results y.lines) else 0

    lines_counted : (b : Block) (t : Bool) → tally x (results (if t then b.lines ++ y.lines else b.lines)) ≡ tally x (results b.lines) + more t
    lines_counted b true = ap (tally x) (results_both b.lines y.lines) ∙ tally_both x (results b.lines) (results y.lines)
    lines_counted b false = omega arith

    block_counted : (b : Block) → tally x (definitions (joined_block a y b)) ≡ tally x (definitions b) + more (nat_eq a b.number)
    block_counted b =
        let new : tally x (definitions (joined_block a y b)) ≡ tally x (phi_locals (joined_block a y b)) + tally x (results (joined_block a y b).lines) = tally_both x (phi_locals (joined_block a y b)) (results (joined_block a y b).lines) in
        let old : tally x (definitions b) ≡ tally x (phi_locals b) + tally x (results b.lines) = tally_both x (phi_locals b) (results b.lines) in
        let phis : tally x (phi_locals (joined_block a y b)) ≡ tally x (phi_locals b) = ap (tally x) (phi_locals_stay b) in
        let lines : tally x (results (joined_block a y b).lines) ≡ tally x (results b.lines) + more (nat_eq a b.number) = lines_counted b (nat_eq a b.number) in
        omega (arith, new, old, phis, lines)

    -- the first of these blocks, if it is there, gains what the second loses
    blocks_counted : (bs : List Block) → nat_eq a y.number ≡ false → tally x (definitions y) ≡ tally x (results y.lines) → ((i : ℕ) (b : Block) → slice_get bs i ≡ Some b → nat_eq y.number b.number ≡ true → y ≡ b)
        → tally x (flat_map definitions (joined_blocks a y bs)) + weigh (λ m. more (nat_eq y.number m)) bs ≡ tally x (flat_map definitions bs) + weigh (λ m. more (nat_eq a m)) bs
    blocks_counted [] apart own is = refl
    blocks_counted (b ∷ bs) apart own is = by (nat_eq y.number b.number) refl (blocks_counted bs apart own (λ i c e. is (suc i) c e))
      where
        all : tally x (definitions b ++ flat_map definitions bs) ≡ tally x (definitions b) + tally x (flat_map definitions bs)
        all = tally_both x (definitions b) (flat_map definitions bs)

        by : (t : Bool) → nat_eq y.number b.number ≡ t → tally x (flat_map definitions (joined_blocks a y bs)) + weigh (λ m. more (nat_eq y.number m)) bs ≡ tally x (flat_map definitions bs) + weigh (λ m. more (nat_eq a m)) bs
            → tally x (flat_map definitions (if t then joined_blocks a y bs else joined_block a y b ∷ joined_blocks a y bs)) + (more t + weigh (λ m. more (nat_eq y.number m)) bs)
            ≡ tally x (definitions b ++ flat_map definitions bs) + (more (nat_eq a b.number) + weigh (λ m. more (nat_eq a m)) bs)
        by true e h =
            let same : y ≡ b = is 0 b refl e in
            let gone : tally x (definitions b) ≡ tally x (results y.lines) = ap (λ (c : Block). tally x (definitions c)) (sym same) ∙ own in
            let none : more (nat_eq a b.number) ≡ 0 = ap (λ (c : Block). more (nat_eq a c.number)) (sym same) ∙ ap more apart in
            omega (arith, h, all, gone, none)
        by false e h =
            let new : tally x (definitions (joined_block a y b) ++ flat_map definitions (joined_blocks a y bs)) ≡ tally x (definitions (joined_block a y b)) + tally x (flat_map definitions (joined_blocks a y bs)) =
            tally_both x (definitions (joined_block a y b)) (flat_map definitions (joined_blocks a y bs)) in
            let one : tally x (definitions (joined_block a y b)) ≡ tally x (definitions b) + more (nat_eq a b.number) = block_counted b in
            omega (arith, h, all, new, one)

    weigh_none : (bs : List Block) → weigh (λ m. 0) bs ≡ 0
    weigh_none [] = refl
    weigh_none (b ∷ bs) = let rest : weigh (λ m. 0) bs ≡ 0 = weigh_none bs in omega (arith, rest)

    weigh_one : (n : ℕ) (bs : List Block) → Distinct (numbers_in bs) → IsNumber bs n → weigh (λ m. more (nat_eq n m)) bs ≡ tally x (results y.lines)
    weigh_one n bs d is =
        let all : weigh (λ m. more (nat_eq n m)) bs + 0 ≡ weigh (λ m. 0) bs + more (nat_eq n n) = weigh_changed (λ m. more (nat_eq n m)) (λ m. 0) n (λ m e. ap more e) bs d is in
        let none : weigh (λ m. 0) bs ≡ 0 = weigh_none bs in
        let one : more (nat_eq n n) ≡ tally x (results y.lines) = ap more (eq-eqb n n refl) in
        omega (arith, all, none, one)

    numbers_less : (bs : List Block) → tally x (numbers_in (joined_blocks a y bs)) ≤ tally x (numbers_in bs)
    numbers_less [] = omega arith
    numbers_less (b ∷ bs) = by (nat_eq y.number b.number) (numbers_less bs)
      where
        by : (t : Bool) → tally x (numbers_in (joined_blocks a y bs)) ≤ tally x (numbers_in bs)
            → tally x (numbers_in (if t then joined_blocks a y bs else joined_block a y b ∷ joined_blocks a y bs)) ≤ (if nat_eq x b.number then 1 else 0) + tally x (numbers_in bs)
        by true h = omega (arith, h)
        by false h = omega (arith, h)

-- ---- what the function defines

module _ (f : Function) (fits : Fits f) (a y : Block) (can : CanJoin f a y) (once : Distinct (locals f ++ numbers f)) where
  abbrev g : Function
  g = joined a.number y f

  locals_counted : (x : ℕ) → tally x (locals g) ≡ tally x (locals f)
  locals_counted x =
      let new : tally x (locals g) ≡ tally x (parameters f) + tally x (flat_map definitions g.blocks) = tally_both x (parameters f) (flat_map definitions g.blocks) in
      let old : tally x (locals f) ≡ tally x (parameters f) + tally x (flat_map definitions f.blocks) = tally_both x (parameters f) (flat_map definitions f.blocks) in
      let own : tally x (definitions y) ≡ tally x (results y.lines) = ap (λ (ps : List Phi). tally x (map (λ p. p.local) ps ++ results y.lines)) can.no_phis in
      let gained : tally x (flat_map definitions g.blocks) + weigh (λ m. more a.number y x (nat_eq y.number m)) f.blocks ≡ tally x (flat_map definitions f.blocks) + weigh (λ m. more a.number y x (nat_eq a.number m)) f.blocks =
      blocks_counted a.number y x f.blocks (ne_eqb a.number y.number (λ s. can.other (sym s))) own (λ i b at e. is_second f fits a y can b (i, at) e) in
      let second_weighs : weigh (λ m. more a.number y x (nat_eq y.number m)) f.blocks ≡ tally x (results y.lines) = weigh_one a.number y x y.number f.blocks fits.once (y, (suc (second f fits a y can).0, (second f fits a y can).1), refl) in
      let first_weighs : weigh (λ m. more a.number y x (nat_eq a.number m)) f.blocks ≡ tally x (results y.lines) = weigh_one a.number y x a.number f.blocks fits.once (a, can.first, refl) in
      omega (arith, new, old, gained, second_weighs, first_weighs)

  pub once_still : Distinct (locals g ++ numbers g)
  once_still = distinct_less (locals g ++ numbers g) (locals f ++ numbers f) less once
    where
      less : (x : ℕ) → tally x (locals g ++ numbers g) ≤ tally x (locals f ++ numbers f)
      less x =
          let new : tally x (locals g ++ numbers g) ≡ tally x (locals g) + tally x (numbers g) = tally_both x (locals g) (numbers g) in
          let old : tally x (locals f ++ numbers f) ≡ tally x (locals f) + tally x (numbers f) = tally_both x (locals f) (numbers f) in
          let same : tally x (locals g) ≡ tally x (locals f) = locals_counted x in
          let fewer : tally x (numbers g) ≤ tally x (numbers f) = numbers_less a.number y x f.blocks in
          omega (arith, new, old, same, fewer)

  names_once : Distinct (names_of (typings g))
  names_once = distinct_less (names_of (typings g)) (locals g ++ numbers g) less once_still
    where
      less : (x : ℕ) → tally x (names_of (typings g)) ≤ tally x (locals g ++ numbers g)
      less x =
          let same : tally x (names_of (typings g)) ≡ tally x (locals g) = ap (tally x) (names_typed g) in
          let all : tally x (locals g ++ numbers g) ≡ tally x (locals g) + tally x (numbers g) = tally_both x (locals g) (numbers g) in
          omega (arith, same, all)

  -- ---- each type is found again

  abbrev Is : Typing → Type 0
  Is t = Found (typings g) t

  all_new : All Is (typings g)
  all_new = found_all (typings g) names_once

  new_block : (i j : ℕ) (b : Block) → Stays f fits a y can i j b → All Is (block_typings (joined_block a.number y b))
  new_block i j b k =
      all_of Is block_typings g.blocks (all_back Is (map {B = Typing} (λ p. (p.local, Some p.reg)) f.params) (flat_map block_typings g.blocks) all_new) j (joined_block a.number y b) k.new

  new_lines : (i j : ℕ) (b : Block) → Stays f fits a y can i j b → All Is (filter_map line_typing (joined_block a.number y b).lines)
  new_lines i j b k = all_back Is (map {B = Typing} (λ p. (p.local, Some p.reg)) (joined_block a.number y b).phis) (filter_map line_typing (joined_block a.number y b).lines) (new_block i j b k)

  both_lines : (b : Block) → All Is (filter_map line_typing (b.lines ++ y.lines)) → All Is (filter_map line_typing b.lines ++ filter_map line_typing y.lines)
  both_lines b h = subst (λ (ts : List Typing). All Is ts) (filter_map-append line_typing b.lines y.lines) h

  second_found : All Is (filter_map line_typing y.lines)
  second_found =
      all_back Is (filter_map line_typing a.lines) (filter_map line_typing y.lines)
      (both_lines a (subst (λ (t : Bool). All Is (filter_map line_typing (if t then a.lines ++ y.lines else a.lines))) (eq-eqb a.number a.number refl) (new_lines can.first.0 (first f fits a y can).0 a (first f fits a y can).1)))

  other_found : (i j : ℕ) (b : Block) → Stays f fits a y can i j b → All Is (block_typings b)
  other_found i j b k =
      All-append Is (map {B = Typing} (λ p. (p.local, Some p.reg)) b.phis) (filter_map line_typing b.lines)
      (subst (λ (ts : List Typing). All Is ts) (phi_typings_stay a.number y b)
      (all_front Is (map {B = Typing} (λ p. (p.local, Some p.reg)) (joined_block a.number y b).phis) (filter_map line_typing (joined_block a.number y b).lines) (new_block i j b k)))
      (by (nat_eq a.number b.number) (new_lines i j b k))
    where
      by : (t : Bool) → All Is (filter_map line_typing (if t then b.lines ++ y.lines else b.lines)) → All Is (filter_map line_typing b.lines)
      by true h = all_front Is (filter_map line_typing b.lines) (filter_map line_typing y.lines) (both_lines b h)
      by false h = h

  block_found : (i : ℕ) (b : Block) → slice_get f.blocks i ≡ Some b → All Is (block_typings b)
  block_found i b at = by (nat_eq y.number b.number) refl
    where
      by : (t : Bool) → nat_eq y.number b.number ≡ t → All Is (block_typings b)
      by true e =
          subst (λ (c : Block). All Is (block_typings c)) (is_second f fits a y can b (i, at) e)
          (subst (λ (ps : List Phi). All Is (map {B = Typing} (λ p. (p.local, Some p.reg)) ps ++ filter_map line_typing y.lines)) (sym can.no_phis) second_found)
      by false e = let there : (j : ℕ) × Stays f fits a y can i j b = stays_from f fits a y can i b at e in other_found i there.0 b there.1

  all_found : All Is (typings f)
  all_found =
      All-append Is (map {B = Typing} (λ p. (p.local, Some p.reg)) f.params) (flat_map block_typings f.blocks)
      (all_front Is (map {B = Typing} (λ p. (p.local, Some p.reg)) f.params) (flat_map block_typings g.blocks) all_new) (all_each Is block_typings f.blocks block_found)

  local_stays : (x : ℕ) → holds (locals f) x ≡ true → (holds (locals g) x ≡ true) × (typing (typings g) x ≡ typing (typings f) x)
  local_stays x h =
      let found : (holds (names_of (typings g)) x ≡ true) × (typing (typings g) x ≡ typing (typings f) x) = found_as (typings g) (typings f) all_found x (ap (λ (xs : List ℕ). holds xs x) (names_typed f) ∙ h) in
      (ap (λ (xs : List ℕ). holds xs x) (sym (names_typed g)) ∙ found.0, found.1)

  pub operand_stays : (o : Operand) → OperandFormed f o → OperandFormed g o × (type_of g o ≡ type_of f o)
  operand_stays (operand.Local x) h = local_stays x h
  operand_stays (operand.Number width bits) h = (h, refl)
  operand_stays operand.Null h = (h, refl)
  operand_stays (operand.Poison reg) h = (h, refl)
  operand_stays (operand.Symbol symbol offset) h = (h, refl)

  pub room_stays : room (locals f) ≤ room (locals g)
  room_stays = room_less (locals f) (locals g) (λ x h. (local_stays x h).0)
