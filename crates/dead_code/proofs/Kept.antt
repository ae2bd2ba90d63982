-- What stays of a function without what nobody needs: its control flow, and what kept locals are.
use Rattle.std.proofs.Common.{◌≡◌, ℕ, zero, suc, ◌+◌, ◌≤◌, nat_eq, ◌||◌, ◌⊎◌, inl, inr, Bool, true, false, List, [], ◌∷◌, ◌++◌, Option, Some, None, map, option_map, refl, sym, ◌∙◌, ap, arith, if◌then◌else◌, append_assoc, append-nil}
use Rattle.std.specs.Prelude.{slice_get, flat_map, filter_map}
use Rattle.std.specs.List.{cons_option}
use Rattle.std.proofs.lemmas.Bool.Decides.{nat_tests}
use Rattle.ir_tree.specs.Flow.{definitions, edges, holds, leading, leading_to, locals, parameters, phi_locals, repeated, results, successors}
use Rattle.ir_tree.specs.Formed.{Distinct, numbers}
use Rattle.ir_tree.specs.Rules.{Typing, block_typings, line_typing, place, result_type, type_of, typing, typings}
use Rattle.ir_tree.specs.declared.block.Block.{Block}
use Rattle.ir_tree.specs.declared.function.Function.{Function}
use Rattle.ir_tree.specs.declared.instr.Line.{Line}
use Rattle.ir_tree.specs.declared.instr.Phi.{Phi}
use Rattle.ir_tree.specs.declared.operand.Operand.{Operand}
use Rattle.ir_tree.specs.declared.operand.Operand.TheVariants as operand
use Rattle.ir_tree.specs.declared.operand.Reg.{Reg}
use Rattle.ir_edit.proofs.Tally.{distinct_less, tally, tally_both}
use Rattle.ir_meaning.specs.Needed.{IsKept, is_effect, is_needed, local_kept, needed, needed_block, needed_blocks, needed_lines, needed_phis}

-- ---- tests

pub same_number : (x y : ℕ) → nat_eq x y ≡ true → x ≡ y
same_number x y h = grind (arith, nat_tests)

pub or_cases : (a b : Bool) → (a || b) ≡ true → (a ≡ true) ⊎ (b ≡ true)
or_cases true b h = inl refl
or_cases false b h = inr h

pub or_left : (a b : Bool) → a ≡ true → (a || b) ≡ true
or_left true b h = refl
or_left false b h = absurd cc

pub or_right : (a b : Bool) → b ≡ true → (a || b) ≡ true
or_right true b h = refl
or_right false b h = h

-- ---- members

abbrev HoldsMore : ℕ → List ℕ → List ℕ → Type 0
HoldsMore x xs ys = holds xs x ≡ true → holds ys x ≡ true

holds_front : (x : ℕ) (xs ys : List ℕ) → holds xs x ≡ true → holds (xs ++ ys) x ≡ true
holds_front x [] ys h = absurd cc
holds_front x (z ∷ xs) ys h = at (or_cases (nat_eq x z) (holds xs x) h) (holds_front x xs ys)
  where
    at : (nat_eq x z ≡ true) ⊎ (holds xs x ≡ true) → (holds xs x ≡ true → holds (xs ++ ys) x ≡ true) → (nat_eq x z || holds (xs ++ ys) x) ≡ true
    at (inl e) more = or_left (nat_eq x z) (holds (xs ++ ys) x) e
    at (inr g) more = or_right (nat_eq x z) (holds (xs ++ ys) x) (more g)

holds_back : (x : ℕ) (xs ys : List ℕ) → holds ys x ≡ true → holds (xs ++ ys) x ≡ true
holds_back x [] ys h = h
holds_back x (z ∷ xs) ys h = or_right (nat_eq x z) (holds (xs ++ ys) x) (holds_back x xs ys h)

holds_either : (x : ℕ) (xs ys : List ℕ) → holds (xs ++ ys) x ≡ true → (holds xs x ≡ true) ⊎ (holds ys x ≡ true)
holds_either x [] ys h = inr h
holds_either x (z ∷ xs) ys h = at (or_cases (nat_eq x z) (holds (xs ++ ys) x) h) (holds_either x xs ys)
  where
    after : (holds xs x ≡ true) ⊎ (holds ys x ≡ true) → ((nat_eq x z || holds xs x) ≡ true) ⊎ (holds ys x ≡ true)
    after (inl e) = inl (or_right (nat_eq x z) (holds xs x) e)
    after (inr e) = inr e

    at : (nat_eq x z ≡ true) ⊎ (holds (xs ++ ys) x ≡ true) → (holds (xs ++ ys) x ≡ true → (holds xs x ≡ true) ⊎ (holds ys x ≡ true)) → ((nat_eq x z || holds xs x) ≡ true) ⊎ (holds ys x ≡ true)
    at (inl e) more = inl (or_left (nat_eq x z) (holds xs x) e)
    at (inr g) more = after (more g)

pub more_of_both : (x : ℕ) (as' bs cs ds : List ℕ) → HoldsMore x as' cs → HoldsMore x bs ds → HoldsMore x (as' ++ bs) (cs ++ ds)
more_of_both x as' bs cs ds f g h = at (holds_either x as' bs h)
  where
    at : (holds as' x ≡ true) ⊎ (holds bs x ≡ true) → holds (cs ++ ds) x ≡ true
    at (inl e) = holds_front x cs ds (f e)
    at (inr e) = holds_back x cs ds (g e)

-- ---- types

-- the two lists say the same of x, whatever follows
abbrev Alike : ℕ → List Typing → List Typing → Type 0
Alike x ts us = (more others : List Typing) → typing more x ≡ typing others x → typing (ts ++ more) x ≡ typing (us ++ others) x

alike_more : (x : ℕ) (t : Typing) (ts us : List Typing) → Alike x ts us → Alike x (t ∷ ts) (t ∷ us)
alike_more x t ts us h more others e = ap (λ (o : Option Reg). if nat_eq t.0 x then t.1 else o) (h more others e)

alike_less : (x : ℕ) (t : Typing) (ts us : List Typing) → nat_eq t.0 x ≡ false → Alike x ts us → Alike x (t ∷ ts) us
alike_less x t ts us differs h more others e = ap (λ (b : Bool). if b then t.1 else typing (ts ++ more) x) differs ∙ h more others e

alike_both : (x : ℕ) (ts us vs ws : List Typing) → Alike x ts us → Alike x vs ws → Alike x (ts ++ vs) (us ++ ws)
alike_both x ts us vs ws h g more others e =
    ap (λ (l : List Typing). typing l x) (append_assoc ts vs more) ∙ h (vs ++ more) (ws ++ others) (g more others e) ∙ ap (λ (l : List Typing). typing l x) (sym (append_assoc us ws others))

alike_same : (x : ℕ) (ts : List Typing) → Alike x ts ts
alike_same x [] more others e = e
alike_same x (t ∷ ts) more others e = alike_more x t ts ts (alike_same x ts) more others e

-- ---- a function and what is needed of it

module _ (keeps : ℕ → Bool) where
  pub blocks_are : (bs : List Block) → needed_blocks keeps bs ≡ map (needed_block keeps) bs
  blocks_are [] = refl
  blocks_are (b ∷ bs) = ap (λ (l : List Block). needed_block keeps b ∷ l) (blocks_are bs)

  pub block_at : (bs : List Block) (i : ℕ) → slice_get (needed_blocks keeps bs) i ≡ option_map (needed_block keeps) (slice_get bs i)
  block_at [] i = refl
  block_at (b ∷ bs) zero = refl
  block_at (b ∷ bs) (suc i) = block_at bs i

  pub place_stays : (bs : List Block) (n : ℕ) → place (needed_blocks keeps bs) n ≡ place bs n
  place_stays [] n = refl
  place_stays (b ∷ bs) n = ap (λ (k : ℕ). if nat_eq b.number n then zero else suc k) (place_stays bs n)

  leading_stays : (n p : ℕ) (bs : List Block) → leading n p (needed_blocks keeps bs) ≡ leading n p bs
  leading_stays n p [] = refl
  leading_stays n p (b ∷ bs) = ap (λ (l : List ℕ). repeated p n (successors b.end) ++ l) (leading_stays n (suc p) bs)

  leading_to_stays : (bs : List Block) (o : Option Block) → leading_to (needed_blocks keeps bs) (option_map (needed_block keeps) o) ≡ leading_to bs o
  leading_to_stays bs None = refl
  leading_to_stays bs (Some b) = leading_stays b.number 0 bs

  pub edges_stay : (f : Function) (b : ℕ) → edges (needed keeps f) b ≡ edges f b
  edges_stay f b = ap (leading_to (needed_blocks keeps f.blocks)) (block_at f.blocks b) ∙ leading_to_stays f.blocks (slice_get f.blocks b)

  numbers_from : (bs : List Block) → map (λ b. b.number) (needed_blocks keeps bs) ≡ map (λ b. b.number) bs
  numbers_from [] = refl
  numbers_from (b ∷ bs) = ap (λ (l : List ℕ). b.number ∷ l) (numbers_from bs)

  pub numbers_stay : (f : Function) → numbers (needed keeps f) ≡ numbers f
  numbers_stay f = numbers_from f.blocks

  -- ---- kept locals stay

  phis_stay : (x : ℕ) → keeps x ≡ true → (ps : List Phi) → HoldsMore x (map (λ p. p.local) ps) (map (λ p. p.local) (needed_phis keeps ps))
  phis_stay x kept [] h = h
  phis_stay x kept (p ∷ ps) h = at (keeps p.local) refl (or_cases (nat_eq x p.local) (holds (map (λ p. p.local) ps) x) h) (phis_stay x kept ps)
    where
      at : (b : Bool) → keeps p.local ≡ b → (nat_eq x p.local ≡ true) ⊎ (holds (map (λ p. p.local) ps) x ≡ true) → HoldsMore x (map (λ p. p.local) ps) (map (λ p. p.local) (needed_phis keeps ps))
          → holds (map (λ p. p.local) (if b then p ∷ needed_phis keeps ps else needed_phis keeps ps)) x ≡ true
      at true k (inl e) more = or_left (nat_eq x p.local) (holds (map (λ p. p.local) (needed_phis keeps ps)) x) e
      at true k (inr g) more = or_right (nat_eq x p.local) (holds (map (λ p. p.local) (needed_phis keeps ps)) x) (more g)
      at false k (inl e) more = absurd (let clash : false ≡ true = sym k ∙ ap keeps (sym (same_number x p.local e)) ∙ kept in cc)
      at false k (inr g) more = more g

  named_needed : (effect : Bool) (x : ℕ) (local : Option ℕ) → keeps x ≡ true → local ≡ Some x → (effect || local_kept keeps local) ≡ true
  named_needed effect x local kept e = or_right effect (local_kept keeps local) (ap (local_kept keeps) e ∙ kept)

  pub results_stay : (x : ℕ) → keeps x ≡ true → (ls : List Line) → HoldsMore x (results ls) (results (needed_lines keeps ls))
  results_stay x kept [] h = h
  results_stay x kept (l ∷ ls) h = at (is_needed keeps l) refl l.local refl h (results_stay x kept ls)
    where
      in_front : (y : ℕ) → (nat_eq x y || holds (results ls) x) ≡ true → HoldsMore x (results ls) (results (needed_lines keeps ls)) → (nat_eq x y || holds (results (needed_lines keeps ls)) x) ≡ true
      in_front y h more = by (or_cases (nat_eq x y) (holds (results ls) x) h)
        where
          by : (nat_eq x y ≡ true) ⊎ (holds (results ls) x ≡ true) → (nat_eq x y || holds (results (needed_lines keeps ls)) x) ≡ true
          by (inl e) = or_left (nat_eq x y) (holds (results (needed_lines keeps ls)) x) e
          by (inr g) = or_right (nat_eq x y) (holds (results (needed_lines keeps ls)) x) (more g)

      dropped : (y : ℕ) → l.local ≡ Some y → is_needed keeps l ≡ false → (nat_eq x y || holds (results ls) x) ≡ true → holds (results ls) x ≡ true
      dropped y is out h = by (or_cases (nat_eq x y) (holds (results ls) x) h)
        where
          by : (nat_eq x y ≡ true) ⊎ (holds (results ls) x ≡ true) → holds (results ls) x ≡ true
          by (inl e) = absurd (let clash : false ≡ true = sym out ∙ named_needed (is_effect l.instr) x l.local kept (is ∙ ap (λ (n : ℕ). Some n) (sym (same_number x y e))) in cc)
          by (inr g) = g

      at : (b : Bool) → is_needed keeps l ≡ b → (o : Option ℕ) → l.local ≡ o → holds (cons_option o (results ls)) x ≡ true → HoldsMore x (results ls) (results (needed_lines keeps ls))
          → holds (results (if b then l ∷ needed_lines keeps ls else needed_lines keeps ls)) x ≡ true
      at true n None is h more = ap (λ (o : Option ℕ). holds (cons_option o (results (needed_lines keeps ls))) x) is ∙ more h
      at true n (Some y) is h more = ap (λ (o : Option ℕ). holds (cons_option o (results (needed_lines keeps ls))) x) is ∙ in_front y h more
      at false n None is h more = more h
      at false n (Some y) is h more = more (dropped y is n h)

  pub phi_locals_stay : (x : ℕ) → keeps x ≡ true → (b : Block) → HoldsMore x (phi_locals b) (phi_locals (needed_block keeps b))
  phi_locals_stay x kept b = phis_stay x kept b.phis

  pub definitions_stay : (x : ℕ) → keeps x ≡ true → (b : Block) → HoldsMore x (definitions b) (definitions (needed_block keeps b))
  definitions_stay x kept b =
      more_of_both x (phi_locals b) (results b.lines) (phi_locals (needed_block keeps b)) (results (needed_lines keeps b.lines)) (phi_locals_stay x kept b) (results_stay x kept b.lines)

  blocks_stay : (x : ℕ) → keeps x ≡ true → (bs : List Block) → HoldsMore x (flat_map definitions bs) (flat_map definitions (needed_blocks keeps bs))
  blocks_stay x kept [] h = h
  blocks_stay x kept (b ∷ bs) h =
      more_of_both x (definitions b) (flat_map definitions bs) (definitions (needed_block keeps b)) (flat_map definitions (needed_blocks keeps bs)) (definitions_stay x kept b) (blocks_stay x kept bs) h

  pub local_stays : (f : Function) (x : ℕ) → keeps x ≡ true → HoldsMore x (locals f) (locals (needed keeps f))
  local_stays f x kept =
      more_of_both x (parameters f) (flat_map definitions f.blocks) (parameters f) (flat_map definitions (needed_blocks keeps f.blocks)) (λ h. h) (blocks_stay x kept f.blocks)

  -- ---- no local is new

  phis_less : (x : ℕ) (ps : List Phi) → tally x (map (λ p. p.local) (needed_phis keeps ps)) ≤ tally x (map (λ p. p.local) ps)
  phis_less x [] = omega arith
  phis_less x (p ∷ ps) = at (keeps p.local) (phis_less x ps)
    where
      at : (b : Bool) → tally x (map (λ p. p.local) (needed_phis keeps ps)) ≤ tally x (map (λ p. p.local) ps)
          → tally x (map (λ p. p.local) (if b then p ∷ needed_phis keeps ps else needed_phis keeps ps)) ≤ (if nat_eq x p.local then 1 else 0) + tally x (map (λ p. p.local) ps)
      at true h = omega (arith, h)
      at false h = omega (arith, h)

  tally_named : (x : ℕ) (o : Option ℕ) (xs ys : List ℕ) → tally x xs ≤ tally x ys → tally x (cons_option o xs) ≤ tally x (cons_option o ys)
  tally_named x None xs ys h = h
  tally_named x (Some z) xs ys h = omega (arith, h)

  tally_unnamed : (x : ℕ) (o : Option ℕ) (xs : List ℕ) → tally x xs ≤ tally x (cons_option o xs)
  tally_unnamed x None xs = omega arith
  tally_unnamed x (Some z) xs = omega arith

  results_less : (x : ℕ) (ls : List Line) → tally x (results (needed_lines keeps ls)) ≤ tally x (results ls)
  results_less x [] = omega arith
  results_less x (l ∷ ls) = at (is_needed keeps l) (results_less x ls)
    where
      at : (b : Bool) → tally x (results (needed_lines keeps ls)) ≤ tally x (results ls)
          → tally x (results (if b then l ∷ needed_lines keeps ls else needed_lines keeps ls)) ≤ tally x (cons_option l.local (results ls))
      at true h = tally_named x l.local (results (needed_lines keeps ls)) (results ls) h
      at false h = let more : tally x (results ls) ≤ tally x (cons_option l.local (results ls)) = tally_unnamed x l.local (results ls) in omega (arith, h, more)

  less_of_both : (x : ℕ) (as' bs cs ds : List ℕ) → tally x as' ≤ tally x cs → tally x bs ≤ tally x ds → tally x (as' ++ bs) ≤ tally x (cs ++ ds)
  less_of_both x as' bs cs ds h g =
      let a : tally x (as' ++ bs) ≡ tally x as' + tally x bs = tally_both x as' bs in
      let b : tally x (cs ++ ds) ≡ tally x cs + tally x ds = tally_both x cs ds in
      omega (arith, a, b, h, g)

  blocks_less : (x : ℕ) (bs : List Block) → tally x (flat_map definitions (needed_blocks keeps bs)) ≤ tally x (flat_map definitions bs)
  blocks_less x [] = omega arith
  blocks_less x (b ∷ bs) =
      less_of_both x (definitions (needed_block keeps b)) (flat_map definitions (needed_blocks keeps bs)) (definitions b) (flat_map definitions bs)
      (less_of_both x (phi_locals (needed_block keeps b)) (results (needed_lines keeps b.lines)) (phi_locals b) (results b.lines) (phis_less x b.phis) (results_less x b.lines))
      (blocks_less x bs)

  pub once_stays : (f : Function) → Distinct (locals f ++ numbers f) → Distinct (locals (needed keeps f) ++ numbers (needed keeps f))
  once_stays f =
      distinct_less (locals (needed keeps f) ++ numbers (needed keeps f)) (locals f ++ numbers f)
      (λ x. less_of_both x (locals (needed keeps f)) (numbers (needed keeps f)) (locals f) (numbers f)
      (less_of_both x (parameters f) (flat_map definitions (needed_blocks keeps f.blocks)) (parameters f) (flat_map definitions f.blocks) (omega arith) (blocks_less x f.blocks))
      (let same : tally x (numbers (needed keeps f)) ≡ tally x (numbers f) = ap (tally x) (numbers_stay f) in omega (arith, same)))

  -- ---- types stay

  differs : (x y : ℕ) → keeps x ≡ true → keeps y ≡ false → nat_eq y x ≡ false
  differs x y kept out = by (nat_eq y x) refl
    where
      by : (b : Bool) → nat_eq y x ≡ b → b ≡ false
      by true e = absurd (let clash : false ≡ true = sym out ∙ ap keeps (same_number y x e) ∙ kept in cc)
      by false e = refl

  phis_alike : (x : ℕ) → keeps x ≡ true → (ps : List Phi) → Alike x (map (λ p. (p.local, Some p.reg)) ps) (map (λ p. (p.local, Some p.reg)) (needed_phis keeps ps))
  phis_alike x kept [] = alike_same x []
  phis_alike x kept (p ∷ ps) = at (keeps p.local) refl (phis_alike x kept ps)
    where
      at : (b : Bool) → keeps p.local ≡ b → Alike x (map (λ p. (p.local, Some p.reg)) ps) (map (λ p. (p.local, Some p.reg)) (needed_phis keeps ps))
          → Alike x ((p.local, Some p.reg) ∷ map (λ p. (p.local, Some p.reg)) ps) (map (λ p. (p.local, Some p.reg)) (if b then p ∷ needed_phis keeps ps else needed_phis keeps ps))
      at true k h = alike_more x (p.local, Some p.reg) (map (λ p. (p.local, Some p.reg)) ps) (map (λ p. (p.local, Some p.reg)) (needed_phis keeps ps)) h
      at false k h = alike_less x (p.local, Some p.reg) (map (λ p. (p.local, Some p.reg)) ps) (map (λ p. (p.local, Some p.reg)) (needed_phis keeps ps)) (differs x p.local kept k) h

  unnamed : (effect : Bool) (y : ℕ) → (effect || local_kept keeps (Some y)) ≡ false → keeps y ≡ false
  unnamed true y h = absurd cc
  unnamed false y h = h

  lines_alike : (x : ℕ) → keeps x ≡ true → (ls : List Line) → Alike x (filter_map line_typing ls) (filter_map line_typing (needed_lines keeps ls))
  lines_alike x kept [] = alike_same x []
  lines_alike x kept (l ∷ ls) = at (is_needed keeps l) refl (lines_alike x kept ls)
    where
      same_in_front : (o : Option Typing) → Alike x (filter_map line_typing ls) (filter_map line_typing (needed_lines keeps ls))
          → Alike x (cons_option o (filter_map line_typing ls)) (cons_option o (filter_map line_typing (needed_lines keeps ls)))
      same_in_front None h = h
      same_in_front (Some t) h = alike_more x t (filter_map line_typing ls) (filter_map line_typing (needed_lines keeps ls)) h

      none_in_front : (local : Option ℕ) → (is_effect l.instr || local_kept keeps local) ≡ false → Alike x (filter_map line_typing ls) (filter_map line_typing (needed_lines keeps ls))
          → Alike x (cons_option (option_map (λ x. (x, result_type l.instr)) local) (filter_map line_typing ls)) (filter_map line_typing (needed_lines keeps ls))
      none_in_front None out h = h
      none_in_front (Some y) out h =
          alike_less x (y, result_type l.instr) (filter_map line_typing ls) (filter_map line_typing (needed_lines keeps ls)) (differs x y kept (unnamed (is_effect l.instr) y out)) h

      at : (b : Bool) → is_needed keeps l ≡ b → Alike x (filter_map line_typing ls) (filter_map line_typing (needed_lines keeps ls))
          → Alike x (cons_option (line_typing l) (filter_map line_typing ls)) (filter_map line_typing (if b then l ∷ needed_lines keeps ls else needed_lines keeps ls))
      at true n h = same_in_front (line_typing l) h
      at false n h = none_in_front l.local n h

  blocks_alike : (x : ℕ) → keeps x ≡ true → (bs : List Block) → Alike x (flat_map block_typings bs) (flat_map block_typings (needed_blocks keeps bs))
  blocks_alike x kept [] = alike_same x []
  blocks_alike x kept (b ∷ bs) =
      alike_both x (block_typings b) (block_typings (needed_block keeps b)) (flat_map block_typings bs) (flat_map block_typings (needed_blocks keeps bs))
      (alike_both x (map (λ p. (p.local, Some p.reg)) b.phis) (map (λ p. (p.local, Some p.reg)) (needed_phis keeps b.phis)) (filter_map line_typing b.lines) (filter_map line_typing (needed_lines keeps b.lines))
      (phis_alike x kept b.phis) (lines_alike x kept b.lines))
      (blocks_alike x kept bs)

  typing_stays : (f : Function) (x : ℕ) → keeps x ≡ true → typing (typings (needed keeps f)) x ≡ typing (typings f) x
  typing_stays f x kept =
      sym (ap (λ (l : List Typing). typing l x) (sym (append-nil (typings f)))
      ∙ alike_both x (map (λ p. (p.local, Some p.reg)) f.params) (map (λ p. (p.local, Some p.reg)) f.params) (flat_map block_typings f.blocks) (flat_map block_typings (needed_blocks keeps f.blocks))
      (alike_same x (map (λ p. (p.local, Some p.reg)) f.params)) (blocks_alike x kept f.blocks) [] [] refl
      ∙ ap (λ (l : List Typing). typing l x) (append-nil (typings (needed keeps f))))

  pub type_stays : (f : Function) (o : Operand) → IsKept keeps o → type_of (needed keeps f) o ≡ type_of f o
  type_stays f (operand.Local x) kept = typing_stays f x kept
  type_stays f (operand.Number width bits) kept = refl
  type_stays f operand.Null kept = refl
  type_stays f (operand.Poison reg) kept = refl
  type_stays f (operand.Symbol symbol offset) kept = refl
