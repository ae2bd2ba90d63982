-- Which bytes are names.
use Rattle.std.proofs.Common.{◌≡◌, ◌∙◌, ◌<◌, ◌≤◌, ◌+◌, ◌++◌, ◌∷◌, [], ℕ, Bool, true, false, not, List, length, map, take, get_or, ap, ap₂, refl, subst, sym}
use Rattle.std.specs.Borrow.{Bor}
use Rattle.std.specs.List.{list_all}
use Rattle.std.specs.Prelude.{◌&&◌}
use Rattle.std.specs.Str.{IsUtf8, is_utf8}
use Rattle.std.proofs.lemmas.List.{map_push, take_all, take_more}
use Rattle.std.proofs.lemmas.List.Folds.{list_all-map, list_all_at, list_all_more}
use Rattle.std.proofs.lemmas.Str.{IsUtf8-from_is_utf8, is_utf8-from_IsUtf8}
use Rattle.lto_words.specs.Values.{is_empty}
use Rattle.lto_words.specs.Listing.{is_name}
use Rattle.lto_words.proofs.Cutting.{not_true}

pub named : (bytes : List ℕ) → is_empty bytes ≡ false → IsUtf8 bytes → is_name bytes ≡ true
named bytes some utf8 = ap₂ (λ (a b : Bool). not a && b) some (is_utf8-from_IsUtf8 bytes utf8)

pub unnamed_empty : (bytes : List ℕ) → is_empty bytes ≡ true → is_name bytes ≡ false
unnamed_empty bytes none = ap (λ (a : Bool). not a && is_utf8 bytes) none

pub unnamed : (bytes : List ℕ) → ¬ (IsUtf8 bytes) → is_name bytes ≡ false
unnamed bytes never = by (is_empty bytes)
  where
    by : (b : Bool) → (not b && is_utf8 bytes) ≡ false
    by true = refl
    by false = not_true (is_utf8 bytes) (λ e. never (IsUtf8-from_is_utf8 bytes e))

-- one of several that is none
pub one_unnamed : (parts : List (Bor (List ℕ))) (i : ℕ) (d : Bor (List ℕ)) → i < length parts → is_name (get_or parts i d).now ≡ false → list_all is_name (map (λ s. s.now) parts) ≡ false
one_unnamed parts i d lt none = list_all-map is_name (λ (s : Bor (List ℕ)). s.now) parts ∙ list_all_at (λ (s : Bor (List ℕ)). is_name s.now) parts i d lt none

-- one more that is one
pub one_more_named : (parts : List (Bor (List ℕ))) (i : ℕ) (d : Bor (List ℕ)) → i < length parts → list_all (λ s. is_name s.now) (take i parts) ≡ true → is_name (get_or parts i d).now ≡ true
    → list_all (λ s. is_name s.now) (take (i + 1) parts) ≡ true
one_more_named parts i d lt before is = list_all_more (λ (s : Bor (List ℕ)). is_name s.now) parts i d lt ∙ ap₂ (λ (a b : Bool). a && b) before is

-- one more name
pub one_more_copied : (parts : List (Bor (List ℕ))) (i : ℕ) (d : Bor (List ℕ)) (names next : List (List ℕ)) (name : List ℕ) → i < length parts → names ≡ map (λ s. s.now) (take i parts) → name ≡ (get_or parts i d).now
    → next ≡ names ++ name ∷ [] → next ≡ map (λ s. s.now) (take (i + 1) parts)
one_more_copied parts i d names next name lt copied is next_is =
    next_is ∙ ap₂ (λ (ns : List (List ℕ)) (n : List ℕ). ns ++ n ∷ []) copied is
    ∙ sym (ap (map (λ (s : Bor (List ℕ)). s.now)) (take_more parts i d lt) ∙ map_push (λ (s : Bor (List ℕ)). s.now) (take i parts) (get_or parts i d))

-- all of them
pub all_named : (parts : List (Bor (List ℕ))) (names : List (List ℕ)) (i : ℕ) → length parts ≤ i → list_all (λ s. is_name s.now) (take i parts) ≡ true → names ≡ map (λ s. s.now) (take i parts)
    → (list_all is_name (map (λ s. s.now) parts) ≡ true) × (names ≡ map (λ s. s.now) parts)
all_named parts names i past each copied =
    let all : take i parts ≡ parts = take_all i parts past in (
      list_all-map is_name (λ (s : Bor (List ℕ)). s.now) parts ∙ subst (λ (l : List (Bor (List ℕ))). list_all (λ s. is_name s.now) l ≡ true) all each,
      copied ∙ ap (map (λ (s : Bor (List ℕ)). s.now)) all,
    )
