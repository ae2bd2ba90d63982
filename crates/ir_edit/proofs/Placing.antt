-- The table of new numbers: one more place, and all of them.
use Rattle.std.proofs.Common.{◌≡◌, ℕ, suc, ◌+◌, ◌<◌, ◌≤◌, ◌==◌, Bool, cond, List, Option, Some, None, length, get_or, drop, sym, ◌∙◌, ap, add-one, drop-cons}
use Rattle.std.proofs.lemmas.List.{drop_all}
use Rattle.std.specs.Ordering.{is_eq, nat_cmp}
use Rattle.ir_edit.specs.Numbered.{later_or, or_behind, place_from, new_number}
use Rattle.ir_edit.proofs.Comparing.{is_eq-nat_cmp}
use Rattle.ir_edit.proofs.Later.{later_or-assoc, later_or-test}

pub one_placed : (numbers : List ℕ) (i n d y x : ℕ) (old new : Option ℕ) → i < length numbers → y ≡ get_or numbers i d → new ≡ cond (is_eq (nat_cmp y x)) (Some n) old
    → later_or (place_from (n + 1) (drop (i + 1) numbers) x) new ≡ later_or (place_from n (drop i numbers) x) old
one_placed numbers i n d y x old new lt item is =
    ap (later_or (place_from (n + 1) (drop (i + 1) numbers) x)) (is ∙ ap (λ (b : Bool). cond b (Some n) old) (is_eq-nat_cmp y x) ∙ sym (later_or-test (y == x) n old))
    ∙ sym (later_or-assoc (place_from (n + 1) (drop (i + 1) numbers) x) (cond (y == x) (Some n) None) old)
    ∙ ap (λ (k : ℕ). later_or (later_or (place_from (n + 1) (drop k numbers) x) (cond (y == x) (Some n) None)) old) (add-one i)
    ∙ (λ j. later_or (later_or (place_from (n + 1) (drop (suc i) numbers) x) (cond (item j == x) (Some n) None)) old)
    ∙ ap (λ (l : List ℕ). later_or (place_from n l x) old) (sym (drop-cons numbers i d lt))

-- all are placed
pub all_placed : (numbers : List ℕ) (i n x : ℕ) (found : Option ℕ) → length numbers ≤ i → n ≡ length numbers → later_or (place_from n (drop i numbers) x) found ≡ place_from 0 numbers x
    → or_behind found (x + n) ≡ new_number numbers x
unfolding new_number
all_placed numbers i n x found past count placed =
    ap (λ (k : ℕ). or_behind found (x + k)) count
    ∙ ap (λ (o : Option ℕ). or_behind o (x + length numbers)) (ap (λ (l : List ℕ). later_or (place_from n l x) found) (sym (drop_all i numbers past)) ∙ placed)
