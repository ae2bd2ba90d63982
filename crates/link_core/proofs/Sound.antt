-- Each act keeps the numbers of a link in range.
use Rattle.std.proofs.Common.{◌≡◌, ◌≢◌, ℕ, zero, suc, ◌+◌, ◌<◌, ◌≤◌, List, [], ◌∷◌, length, get_or, set, Option, Some, None, sym, refl, ap, ◌∙◌, subst, ⊎_elim, arith, length-set}
use Rattle.std.specs.Prelude.{slice_get, sum_by}
use Rattle.std.proofs.lemmas.Bool.{cases_lt, lt-ltb, le-ltb}
use Rattle.std.proofs.lemmas.List.Sums.{sum_by-cons}
use Rattle.std.proofs.lemmas.Option.{get_or_from_slice_get, slice_get_read}
use lib.ListN.{length-replicate}
use Rattle.link_core.specs.declared.event.Phase.{Phase}
use Rattle.link_core.specs.declared.event.Phase.TheVariants.{Idle, Claimed, Missed, Made, Ended}
use Rattle.link_core.specs.Machine.{LinkState, key_at, drawn, claimed, moved, settled, opened}
use Rattle.link_core.specs.Sound.{number_of, has_ended, IsSound}
use Rattle.link_core.proofs.Lists.{get_set, replicate_get, sum_set}

-- a phase that is read at a worker's place in the list is the worker's
pub phase_read : (l now : LinkState) (i : ℕ) (x p : Phase) → l ≡ now → i < length now.phases → x ≡ get_or l.phases i x → x ≡ p → slice_get l.phases i ≡ Some p
phase_read l now i x p same below at is =
    let inside : i < length l.phases = subst (λ (s : LinkState). i < length s.phases) (sym same) below in
    slice_get_read l.phases (length l.phases) i x refl inside at ∙ ap (λ (z : Phase). Some z) is

-- so is one that is taken from there
pub phase_taken : (l now : LinkState) (i : ℕ) (p x q : Phase) → l ≡ now → slice_get now.phases i ≡ Some p → q ≡ x → x ≡ get_or l.phases i x → slice_get l.phases i ≡ Some q
phase_taken l now i p x q same here is at =
    let before : slice_get l.phases i ≡ Some p = subst (λ (s : LinkState). slice_get s.phases i ≡ Some p) (sym same) here in
    before ∙ ap (λ (z : Phase). Some z) (sym (is ∙ (at ∙ get_or_from_slice_get l.phases i p x before)))

pub ended_le : (ps : List Phase) → sum_by has_ended ps ≤ length ps
ended_le [] = omega arith
ended_le (p ∷ ps) = let r = ended_le ps in let s = sum_by-cons has_ended p ps in let one = at_most_one p in omega arith
  where
    at_most_one : (q : Phase) → has_ended q ≤ 1
    at_most_one Idle = omega arith
    at_most_one (Claimed k) = omega arith
    at_most_one (Missed k) = omega arith
    at_most_one (Made k t) = omega arith
    at_most_one Ended = omega arith

-- a worker that has a number has not ended
not_ended : (p : Phase) (k : ℕ) → number_of p ≡ Some k → has_ended p ≡ 0
not_ended Idle k e = refl
not_ended (Claimed n) k e = refl
not_ended (Missed n) k e = refl
not_ended (Made n t) k e = refl
not_ended Ended k e = absurd (cc e)

-- where no worker's end is undone and each number is in range, a changed phase keeps a link sound
moves : (l : LinkState) (i next : ℕ) (p q : Phase) (rs : List (Option (List ℕ))) → IsSound l → slice_get l.phases i ≡ Some p → next + has_ended p ≤ l.next + has_ended q → ((k : ℕ) → number_of q ≡ Some k → k < length l.keys) → length rs ≡ length l.results
    → IsSound record { keys = l.keys; next = next; phases = set l.phases i q; results = rs }
moves l i next p q rs sound at room below len = record {
  room = let s = sum_set has_ended l.phases i p q at in let old = sound.room in omega arith;
  numbers = λ j k r here number. ⊎_elim
      (λ (h : (j ≡ i) × (q ≡ r)). below k (ap number_of h.1 ∙ number))
      (λ (h : (j ≢ i) × (slice_get l.phases j ≡ Some r)). sound.numbers j k r h.1 number)
      (get_set l.phases i j q r here);
  sized = len ∙ sound.sized;
}

pub claimed_sound : (l : LinkState) (i : ℕ) → IsSound l → slice_get l.phases i ≡ Some Idle → IsSound (claimed l i)
claimed_sound l i sound at = ⊎_elim
    (λ (lt : l.next < length l.keys).
    let draws : drawn l.next (length l.keys) ≡ Claimed l.next = rw (lt-ltb l.next (length l.keys) lt) refl in
    -- one more number was drawn, and there are more keys
    rw draws record {
      room = omega arith;
      numbers = λ j k r here number. ⊎_elim
          (λ (h : (j ≡ i) × (Claimed l.next ≡ r)). let is : Some l.next ≡ Some k = ap number_of h.1 ∙ number in let same : l.next ≡ k = cc is in omega arith)
          (λ (h : (j ≢ i) × (slice_get l.phases j ≡ Some r)). sound.numbers j k r h.1 number)
          (get_set l.phases i j (Claimed l.next) r here);
      sized = sound.sized;
    })
    (λ (ge : length l.keys ≤ l.next).
    let draws : drawn l.next (length l.keys) ≡ Ended = rw (le-ltb l.next (length l.keys) ge) refl in
    rw draws (moves l i (l.next + 1) Idle Ended l.results sound at (omega arith) (λ k e. absurd (cc e)) refl))
    (cases_lt l.next (length l.keys))

pub moved_sound : (l : LinkState) (i k : ℕ) (p q : Phase) → IsSound l → slice_get l.phases i ≡ Some p → number_of p ≡ Some k → number_of q ≡ Some k → IsSound (moved l i q)
moved_sound l i k p q sound at had has =
    moves l i l.next p q l.results sound at (let none = not_ended p k had in omega arith) (λ j e. sound.numbers i j p at (had ∙ (sym has ∙ e))) refl

pub settled_sound : (l : LinkState) (i k : ℕ) (p : Phase) (t : List ℕ) → IsSound l → slice_get l.phases i ≡ Some p → number_of p ≡ Some k → IsSound (settled l i k t)
settled_sound l i k p t sound at had =
    moves l i l.next p Idle (set l.results k (Some t)) sound at (let none = not_ended p k had in omega arith) (λ j e. absurd (cc e)) (length-set l.results k (Some t))

pub opened_sound : (c : List (List ℕ) × ℕ) → IsSound (opened c)
opened_sound c = record {
  room = omega arith;
  numbers = λ j k r here number. absurd (let idle : Idle ≡ r = replicate_get c.1 j Idle r here in let no : None ≡ Some k = ap number_of idle ∙ number in cc no);
  sized = length-replicate (length c.0) None;
}

pub key_reads : (keys : List (List ℕ)) (k : ℕ) (x : List ℕ) → k < length keys → x ≡ get_or keys k x → x ≡ key_at keys k
key_reads [] k x below is = absurd (omega arith)
key_reads (y ∷ ys) zero x below is = is
key_reads (y ∷ ys) (suc k) x below is = key_reads ys k x (omega arith) is
