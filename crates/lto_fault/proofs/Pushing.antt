-- How parts of a text are pushed one after another.
use Rattle.std.proofs.Common.{◌≡◌, ℕ, zero, suc, ◌+◌, ◌<◌, Bool, true, false, List, [], ◌∷◌, ◌++◌, Option, Some, None, refl, sym, ◌∙◌, ap, take, drop, length, get_or, map, append_assoc, add-one, arith, ◌≤◌}
use Rattle.std.specs.Borrow.{Bor}
use Rattle.std.proofs.lemmas.List.{append-nil, take-append-drop}
use Rattle.std.specs.Io.KnownBytes.{Appends, Keeps}
use Rattle.lto_outside.specs.Cause.{Rose}
use Rattle.lto_outside.specs.Seen.{StreamSeen, stream_seen}
use Rattle.lto_fault.specs.Pushing.{Pushes, joined}

-- what was sent before and is sent now, and the counts of faults
abbrev pub seen : Option (List ℕ) → Option (List ℕ) → ℕ → ℕ → StreamSeen
seen s t f g = record { told = s; told_now = t; faults = f; faults_now = g }

pub appends_kept : (s t u : Option (List ℕ)) (xs : List ℕ) → Appends s t xs → Keeps t u → Appends s u xs
appends_kept None t u xs a k = tt
appends_kept (Some s) None u xs a k = absurd a
appends_kept (Some s) (Some t) None xs a k = absurd k
appends_kept (Some s) (Some t) (Some u) xs a k = k ∙ a

pub appends_both : (s t u : Option (List ℕ)) (xs ys : List ℕ) → Appends s t xs → Appends t u ys → Appends s u (xs ++ ys)
appends_both None t u xs ys a b = tt
appends_both (Some s) None u xs ys a b = absurd a
appends_both (Some s) (Some t) None xs ys a b = absurd b
appends_both (Some s) (Some t) (Some u) xs ys a b = b ∙ ap (λ l. l ++ ys) a ∙ append_assoc s xs ys

-- a push fails behind the first bytes
pub stopped : (s t u : Option (List ℕ)) (f g : ℕ) (text : List ℕ) (i : ℕ) → Appends s t (take i text) → Keeps t u → Rose f g → Pushes (seen s u f g) text false
stopped s t u f g text i a k rose = (take i text, drop i text, sym (take-append-drop i text), appends_kept s t u (take i text) a k, rose)

-- a part is stopped within, behind others
pub stopped_within : (s t u : Option (List ℕ)) (e f g : ℕ) (first part others text : List ℕ) → Appends s t first → e ≤ f → Pushes (seen t u f g) part false → text ≡ first ++ (part ++ others)
    → Pushes (seen s u e g) text false
stopped_within s t u e f g first part others text a le (front, rest, split, b, rose) is =
    (first ++ front, rest ++ others, whole, appends_both s t u first front a b, omega (arith, rose))
  where
    whole : text ≡ (first ++ front) ++ (rest ++ others)
    whole = is ∙ ap (λ l. first ++ (l ++ others)) split ∙ ap (λ l. first ++ l) (append_assoc front rest others) ∙ sym (append_assoc first front (rest ++ others))

-- the first part is stopped
pub stopped_first : (s t : Option (List ℕ)) (f g : ℕ) (part others : List ℕ) → Pushes (seen s t f g) part false → Pushes (seen s t f g) (part ++ others) false
stopped_first s t f g part others (front, rest, split, a, rose) = (front, rest ++ others, ap (λ l. l ++ others) split ∙ append_assoc front rest others, a, rose)

-- a part was sent, and then another one, or a front of it
pub both : (s t u : Option (List ℕ)) (e f g : ℕ) (first part : List ℕ) (whole : Bool) → Pushes (seen s t e f) first true → e ≤ f → Pushes (seen t u f g) part whole
    → Pushes (seen s u e g) (first ++ part) whole
both s t u e f g first part true a le b = appends_both s t u first part a b
both s t u e f g first part false a le (front, rest, split, b, rose) =
    (first ++ front, rest, ap (λ l. first ++ l) split ∙ sym (append_assoc first front rest), appends_both s t u first front a b, omega (arith, rose))

-- the same of a sink's states
module _ {N : Type 0} (sent : N → Option (List ℕ)) (faults : N → ℕ) (a b c : N) where
  pub first_stopped : (part others : List ℕ) → Pushes (stream_seen sent faults a b) part false → Pushes (stream_seen sent faults a b) (part ++ others) false
  first_stopped part others h = stopped_first (sent a) (sent b) (faults a) (faults b) part others h

  pub then_part : (first part : List ℕ) (whole : Bool) → Pushes (stream_seen sent faults a b) first true → faults a ≤ faults b → Pushes (stream_seen sent faults b c) part whole
      → Pushes (stream_seen sent faults a c) (first ++ part) whole
  then_part first part whole h le k = both (sent a) (sent b) (sent c) (faults a) (faults b) (faults c) first part whole h le k

-- the text of the first parts, and of one more
pub joined-more : (parts : List (Bor (List ℕ))) (i : ℕ) (d : Bor (List ℕ)) → i < length parts → joined (map (λ p. p.now) (take (i + 1) parts)) ≡ joined (map (λ p. p.now) (take i parts)) ++ (get_or parts i d).now
joined-more parts i d lt = rw add-one (at_suc parts i d lt)
  where
    at_suc : (parts : List (Bor (List ℕ))) (i : ℕ) (d : Bor (List ℕ)) → i < length parts → joined (map (λ p. p.now) (take (suc i) parts)) ≡ joined (map (λ p. p.now) (take i parts)) ++ (get_or parts i d).now
    at_suc [] i d lt = absurd (omega arith)
    at_suc (p ∷ parts) zero d lt = append-nil p.now
    at_suc (p ∷ parts) (suc i) d lt = ap (λ l. p.now ++ l) (at_suc parts i d (omega arith)) ∙ sym (append_assoc p.now (joined (map (λ p. p.now) (take i parts))) (get_or parts i d).now)

-- the text is that of the first parts, of this one, and of the others
pub joined-split : (parts : List (Bor (List ℕ))) (i : ℕ) (d : Bor (List ℕ)) → i < length parts → joined (map (λ p. p.now) parts) ≡ joined (map (λ p. p.now) (take i parts)) ++ ((get_or parts i d).now ++ joined (map (λ p. p.now) (drop (suc i) parts)))
joined-split [] i d lt = absurd (omega arith)
joined-split (p ∷ parts) zero d lt = refl
joined-split (p ∷ parts) (suc i) d lt = ap (λ l. p.now ++ l) (joined-split parts i d (omega arith)) ∙ sym (append_assoc p.now (joined (map (λ p. p.now) (take i parts))) ((get_or parts i d).now ++ joined (map (λ p. p.now) (drop (suc i) parts))))
