-- Symbols in the scope of a module, and the table of live symbols.
use Rattle.std.proofs.Common.{◌≡◌, ◌∙◌, ◌<◌, ◌≤◌, ◌+◌, ◌||◌, ◌&&◌, ℕ, Bool, true, false, cond, if◌then◌else◌, List, ◌++◌, length, drop, drop-cons, add-one, drop_of_length-le, slice_index_or, Option, Some, None, refl, sym, ap, ap₂}
use Rattle.lto_sets.specs.Sets.{contains}
use Rattle.ir_tree.specs.Symbols.{symbol_eq}
use Rattle.ir_tree.specs.declared.operand.Symbol.{Symbol}
use Rattle.combined_index.specs.Finals.{suffix_at}
use Rattle.merge_meaning.specs.Kept.{is_kept}
use Rattle.merge_meaning.specs.Lives.{is_live}
use Rattle.merge_meaning.specs.Merged.{local_to, symbol_by}
use Rattle.merge_meaning.specs.Scopes.{named_where, names_by, symbol_for}
use Rattle.merge_meaning.specs.declared.lives.Link.{Link}
use Rattle.merge_meaning.specs.declared.scope.Scope.{Scope}

-- ---- symbols in a scope

symbol_parts : (k : ℕ) (own : List ℕ → Bool) (s : Symbol) → symbol_by k own s ≡ record { home = (symbol_by k own s).home; name = s.name }
symbol_parts k own s = by (own s.name)
  where
    by : (b : Bool) → (if b then local_to k s.name else s) ≡ record { home = (if b then local_to k s.name else s).home; name = s.name }
    by true = refl
    by false = refl

module _ (scope : Scope) (s : Symbol) where
  parts_for : symbol_for scope s ≡ record { home = (symbol_for scope s).home; name = s.name }
  parts_for = symbol_parts scope.number (is_kept scope.own.keys) s

  pub named_plain : (home : Option ℕ) (name : List ℕ) → scope.link ≡ None → home ≡ (symbol_for scope s).home → name ≡ s.name
      → record { home = home; name = name } ≡ (names_by scope).symbol s
  unfolding names_by
  named_plain home name none home_is name_is =
      (λ i. record { home = home_is i; name = name_is i }) ∙ sym parts_for ∙ sym (ap (λ (link : Option Link). named_where link (symbol_for scope s)) none)

  pub named_final : (link : Link) (home : Option ℕ) (name suffix whole : List ℕ) → scope.link ≡ Some link → home ≡ (symbol_for scope s).home → name ≡ s.name
      → suffix ≡ suffix_at link.suffixes.now home → whole ≡ name ++ suffix → record { home = None; name = whole } ≡ (names_by scope).symbol s
  unfolding names_by
  named_final link home name suffix whole some home_is name_is suffix_is whole_is =
      ap (λ (n : List ℕ). record { home = None; name = n })
      (whole_is ∙ ap₂ (λ (a b : List ℕ). a ++ b) (name_is ∙ sym (ap (λ (u : Symbol). u.name) parts_for)) (suffix_is ∙ ap (suffix_at link.suffixes.now) home_is))
      ∙ sym (ap (λ (l : Option Link). named_where l (symbol_for scope s)) some)

-- ---- the table

abbrev NotedTo : List Symbol → List Bool → ℕ → (Symbol → Bool) → Type 0
NotedTo symbols marks i noted = (s : Symbol) → (noted s || is_live (drop i symbols) (drop i marks) s) ≡ is_live symbols marks s

module _ (symbols : List Symbol) (marks : List Bool) (i : ℕ) (here : i < length symbols) (there : i < length marks) (d t : Symbol) (t_is : slice_index_or symbols i d ≡ t) where
  split : (s : Symbol) → is_live (drop i symbols) (drop i marks) s ≡ ((contains marks i && symbol_eq t s) || is_live (drop (i + 1) symbols) (drop (i + 1) marks) s)
  split s =
      ap₂ (λ (ts : List Symbol) (ms : List Bool). is_live ts ms s) (drop-cons symbols i d here) (drop-cons marks i false there)
      ∙ ap₂ (λ (u : Symbol) (n : ℕ). (contains marks i && symbol_eq u s) || is_live (drop n symbols) (drop n marks) s) t_is (sym (add-one i))

  pub noted_one : (old new : Symbol → Bool) → contains marks i ≡ true → ((s : Symbol) → new s ≡ cond (symbol_eq t s) true (old s)) → NotedTo symbols marks i old → NotedTo symbols marks (i + 1) new
  noted_one old new marked is so_far s =
      ap (λ (b : Bool). b || is_live (drop (i + 1) symbols) (drop (i + 1) marks) s) (is s)
      ∙ grouped (symbol_eq t s) (old s)
      ∙ ap (λ (b : Bool). old s || ((b && symbol_eq t s) || is_live (drop (i + 1) symbols) (drop (i + 1) marks) s)) (sym marked)
      ∙ ap (λ (b : Bool). old s || b) (sym (split s))
      ∙ so_far s
    where
      grouped : (a b : Bool) → (cond a true b || is_live (drop (i + 1) symbols) (drop (i + 1) marks) s) ≡ (b || (a || is_live (drop (i + 1) symbols) (drop (i + 1) marks) s))
      grouped true true = refl
      grouped true false = refl
      grouped false true = refl
      grouped false false = refl

  pub noted_none : (old : Symbol → Bool) → contains marks i ≡ false → NotedTo symbols marks i old → NotedTo symbols marks (i + 1) old
  noted_none old marked so_far s =
      ap (λ (b : Bool). old s || ((b && symbol_eq t s) || is_live (drop (i + 1) symbols) (drop (i + 1) marks) s)) (sym marked)
      ∙ ap (λ (b : Bool). old s || b) (sym (split s))
      ∙ so_far s

pub all_noted : (symbols : List Symbol) (marks : List Bool) (i : ℕ) (noted : Symbol → Bool) → length symbols ≤ i → NotedTo symbols marks i noted
    → (s : Symbol) → noted s ≡ is_live symbols marks s
all_noted symbols marks i noted past so_far s =
    sym (or_false (noted s))
    ∙ ap (λ (ts : List Symbol). noted s || is_live ts (drop i marks) s) (sym (drop_of_length-le symbols past))
    ∙ so_far s
  where
    or_false : (b : Bool) → (b || false) ≡ b
    or_false true = refl
    or_false false = refl
