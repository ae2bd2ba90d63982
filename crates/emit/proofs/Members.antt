-- What the linked module has of the values that it is made of.
use Rattle.std.proofs.Common.{◌≡◌, ◌∙◌, ◌⊎◌, inl, inr, ◌&&◌, not, Bool, true, false, if◌then◌else◌, List, [], ◌∷◌, ◌++◌, ℕ, map, filter, refl, sym, ap, subst}
use Rattle.std.proofs.lemmas.Bool.{and_from, and_parts, not-true}
use Rattle.std.proofs.lemmas.List.Elements.{Contains-append_cases, Contains-append_left, Contains-append_right}
use Rattle.std.proofs.lemmas.List.Sorted.{Contains-permutation, IsPermutation-sym}
use Rattle.std.specs.List.{Contains}
use Rattle.ir_tree.specs.Wholes.{global_symbol, symbols}
use Rattle.ir_tree.specs.declared.module.GlobalValue.{GlobalValue}
use Rattle.ir_tree.specs.declared.module.GlobalValue.TheVariants as global
use Rattle.ir_tree.specs.declared.operand.Symbol.{Symbol}
use Rattle.ir_meaning.specs.Programs.{symbol_of}
use Rattle.merge_meaning.specs.ByName.{IsInOrder, is_named}
use Rattle.merge_meaning.specs.Hosts.{getchar, putchar}
use Rattle.merge_meaning.proofs.Standing.{alone, filter_from, first, in_filter, in_map, map_from, nothing}
use Rattle.emit.specs.Emissions.{IsEmission, in_use, is_variable, outside_in_use, settled}
use Rattle.emit.specs.Laws.{EmissionComesFrom}

-- ---- functions of the outside

pub used : (keeps : List ℕ → Bool) (hs : List GlobalValue) (g : GlobalValue) → keeps (symbol_of g).name ≡ true → is_named hs (symbol_of g).name ≡ false → Contains (in_use keeps hs g) g
used keeps hs g on free =
    subst (λ (b : Bool). Contains (if b then g ∷ [] else []) g) (sym (and_from (keeps (symbol_of g).name) (not (is_named hs (symbol_of g).name)) on (ap not free))) (first g [])

pub used_is : (keeps : List ℕ → Bool) (hs : List GlobalValue) (g x : GlobalValue) → Contains (in_use keeps hs g) x
    → (g ≡ x) × (keeps (symbol_of g).name ≡ true) × (is_named hs (symbol_of g).name ≡ false)
used_is keeps hs g x h = by (keeps (symbol_of g).name && not (is_named hs (symbol_of g).name)) refl h
  where
    by : (b : Bool) → (keeps (symbol_of g).name && not (is_named hs (symbol_of g).name)) ≡ b → Contains (if b then g ∷ [] else []) x
        → (g ≡ x) × (keeps (symbol_of g).name ≡ true) × (is_named hs (symbol_of g).name ≡ false)
    by true e h =
        let parts = and_parts (keeps (symbol_of g).name) (not (is_named hs (symbol_of g).name)) e in
        (alone g x h, parts.0, not-true (is_named hs (symbol_of g).name) parts.1)
    by false e h = absurd (nothing x h)

-- ---- symbols

pub settled_symbol : (exports : List (List ℕ)) (h : GlobalValue) → symbol_of (settled exports h) ≡ symbol_of h
settled_symbol exports (global.Variable v) = refl
settled_symbol exports (global.Function f) = refl

settled_global : (exports : List (List ℕ)) (h : GlobalValue) → global_symbol (settled exports h) ≡ global_symbol h
settled_global exports (global.Variable v) = refl
settled_global exports (global.Function f) = refl

pub settled_symbols : (exports : List (List ℕ)) (gs : List GlobalValue) → symbols (map (settled exports) gs) ≡ symbols gs
settled_symbols exports [] = refl
settled_symbols exports (g ∷ gs) = ap (λ (s : Symbol). s ∷ symbols (map (settled exports) gs)) (settled_global exports g) ∙ ap (λ (ss : List Symbol). global_symbol g ∷ ss) (settled_symbols exports gs)

-- ---- members

module _ (exports : List (List ℕ)) (hs ks : List GlobalValue) (e : IsEmission exports hs ks) where
  -- a value of a group is a kept one
  pub of_group : (such : GlobalValue → Bool) (gs : List GlobalValue) → IsInOrder (filter (λ (h : GlobalValue). e.keeps (symbol_of h).name && such h) hs) gs → (h : GlobalValue) → Contains gs h
      → Contains hs h × (e.keeps (symbol_of h).name ≡ true) × (such h ≡ true)
  of_group such gs order h there =
      let back = Contains-permutation gs (filter (λ (g : GlobalValue). e.keeps (symbol_of g).name && such g) hs) h (IsPermutation-sym _ _ order.same) there in
      let passed = filter_from (λ (g : GlobalValue). e.keeps (symbol_of g).name && such g) hs h back in
      let parts = and_parts (e.keeps (symbol_of h).name) (such h) passed.1 in
      (passed.0, parts.0, parts.1)

  to_group : (such : GlobalValue → Bool) (gs : List GlobalValue) → IsInOrder (filter (λ (h : GlobalValue). e.keeps (symbol_of h).name && such h) hs) gs → (h : GlobalValue) → Contains hs h
      → e.keeps (symbol_of h).name ≡ true → such h ≡ true → Contains gs h
  to_group such gs order h there on is =
      Contains-permutation (filter (λ (g : GlobalValue). e.keeps (symbol_of g).name && such g) hs) gs h order.same
      (in_filter (λ (g : GlobalValue). e.keeps (symbol_of g).name && such g) hs h there (and_from (e.keeps (symbol_of h).name) (such h) on is))

  abbrev Settled : GlobalValue → Type 0
  Settled k = (h : GlobalValue) × Contains hs h × (e.keeps (symbol_of h).name ≡ true) × (settled exports h ≡ k)

  settled_from : (such : GlobalValue → Bool) (gs : List GlobalValue) → IsInOrder (filter (λ (h : GlobalValue). e.keeps (symbol_of h).name && such h) hs) gs → (k : GlobalValue)
      → Contains (map (settled exports) gs) k → Settled k
  settled_from such gs order k there =
      let found = map_from (settled exports) gs k there in
      let member = of_group such gs order found.0 found.1 in
      (found.0, member.0, member.1, found.2)

  -- each value is a kept one, settled, or one of the outside's functions
  pub comes : (k : GlobalValue) → Contains ks k → Settled k ⊎ Contains (outside_in_use e.keeps hs) k
  comes k there = by (Contains-append_cases (map (settled exports) e.variables) (outside_in_use e.keeps hs ++ map (settled exports) e.functions) k (subst (λ (l : List GlobalValue). Contains l k) e.is there))
    where
      behind : Contains (outside_in_use e.keeps hs) k ⊎ Contains (map (settled exports) e.functions) k → Settled k ⊎ Contains (outside_in_use e.keeps hs) k
      behind (inl outside) = inr outside
      behind (inr function) = inl (settled_from (λ h. not (is_variable h)) e.functions e.functions_are k function)

      by : Contains (map (settled exports) e.variables) k ⊎ Contains (outside_in_use e.keeps hs ++ map (settled exports) e.functions) k → Settled k ⊎ Contains (outside_in_use e.keeps hs) k
      by (inl variable) = inl (settled_from is_variable e.variables e.variables_are k variable)
      by (inr rest) = behind (Contains-append_cases (outside_in_use e.keeps hs) (map (settled exports) e.functions) k rest)

  -- and each kept one is there
  pub stays : (h : GlobalValue) → Contains hs h → e.keeps (symbol_of h).name ≡ true → Contains ks (settled exports h)
  stays h there on = subst (λ (l : List GlobalValue). Contains l (settled exports h)) (sym e.is) (by (is_variable h) refl)
    where
      by : (b : Bool) → is_variable h ≡ b → Contains (map (settled exports) e.variables ++ (outside_in_use e.keeps hs ++ map (settled exports) e.functions)) (settled exports h)
      by true is =
          Contains-append_left (map (settled exports) e.variables) (outside_in_use e.keeps hs ++ map (settled exports) e.functions) (settled exports h)
          (in_map (settled exports) e.variables h (to_group is_variable e.variables e.variables_are h there on is))
      by false is =
          Contains-append_right (map (settled exports) e.variables) (outside_in_use e.keeps hs ++ map (settled exports) e.functions) (settled exports h)
          (Contains-append_right (outside_in_use e.keeps hs) (map (settled exports) e.functions) (settled exports h)
          (in_map (settled exports) e.functions h (to_group (λ g. not (is_variable g)) e.functions e.functions_are h there on (ap not is))))

  pub outside_stays : (g : GlobalValue) → Contains (outside_in_use e.keeps hs) g → Contains ks g
  outside_stays g there =
      subst (λ (l : List GlobalValue). Contains l g) (sym e.is)
      (Contains-append_right (map (settled exports) e.variables) (outside_in_use e.keeps hs ++ map (settled exports) e.functions) g
      (Contains-append_left (outside_in_use e.keeps hs) (map (settled exports) e.functions) g there))

-- what is in use is one of the two
pub outside_is : (keeps : List ℕ → Bool) (hs : List GlobalValue) (g : GlobalValue) → Contains (outside_in_use keeps hs) g
    → ((getchar ≡ g) ⊎ (putchar ≡ g)) × (is_named hs (symbol_of g).name ≡ false)
outside_is keeps hs g there = by (Contains-append_cases (in_use keeps hs getchar) (in_use keeps hs putchar) g there)
  where
    by : Contains (in_use keeps hs getchar) g ⊎ Contains (in_use keeps hs putchar) g → ((getchar ≡ g) ⊎ (putchar ≡ g)) × (is_named hs (symbol_of g).name ≡ false)
    by (inl h) = let is = used_is keeps hs getchar g h in (inl is.0, subst (λ (x : GlobalValue). is_named hs (symbol_of x).name ≡ false) is.0 is.2)
    by (inr h) = let is = used_is keeps hs putchar g h in (inr is.0, subst (λ (x : GlobalValue). is_named hs (symbol_of x).name ≡ false) is.0 is.2)

pub comes_from : EmissionComesFrom
comes_from exports hs ks e k there = by (comes exports hs ks e k there)
  where
    host : (getchar ≡ k) ⊎ (putchar ≡ k) → (k ≡ getchar) ⊎ (k ≡ putchar)
    host (inl is) = inl (sym is)
    host (inr is) = inr (sym is)

    by : ((h : GlobalValue) × Contains hs h × (e.keeps (symbol_of h).name ≡ true) × (settled exports h ≡ k)) ⊎ Contains (outside_in_use e.keeps hs) k
        → ((h : GlobalValue) × Contains hs h × (k ≡ settled exports h)) ⊎ ((k ≡ getchar) ⊎ (k ≡ putchar))
    by (inl found) = inl (found.0, found.1, sym found.3)
    by (inr outside) = inr (host (outside_is e.keeps hs k outside).0)
