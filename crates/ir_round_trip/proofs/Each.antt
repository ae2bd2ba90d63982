-- What holds of each element of lists.
use Rattle.std.proofs.Common.{List, [], ◌∷◌, ◌++◌}
use Rattle.std.specs.List.{AllByRecursion as Each}
use Rattle.ir_parse_names.specs.Marks.{Mark, all}
use Rattle.ir_round_trip.specs.PartsPrinted.{Paired}

pub front : {A : Type 0} (P : A → Type 0) (xs ys : List A) → Each P (xs ++ ys) → Each P xs
front P [] ys h = tt
front P (x ∷ xs) ys h = (h.0, front P xs ys h.1)

pub back : {A : Type 0} (P : A → Type 0) (xs ys : List A) → Each P (xs ++ ys) → Each P ys
back P [] ys h = h
back P (x ∷ xs) ys h = back P xs ys h.1

pub joined : {A : Type 0} (P : A → Type 0) (xs ys : List A) → Each P xs → Each P ys → Each P (xs ++ ys)
joined P [] ys h k = k
joined P (x ∷ xs) ys h k = (h.0, joined P xs ys h.1 k)

pub both : {A : Type 0} (P Q : A → Type 0) (xs : List A) → Each P xs → Each Q xs → Each (λ x. P x × Q x) xs
both P Q [] p q = tt
both P Q (x ∷ xs) p q = ((p.0, q.0), both P Q xs p.1 q.1)

-- the marks of parts that stand for others
pub all_marks : {A B : Type 0} (P : Mark → Type 0) (marks : B → List Mark) (R : A → B → Type 0) (K : A → Type 0) → ((a : A) (b : B) → K a → R a b → Each P (marks b)) → (as' : List A) (bs : List B) → Each K as' → Paired R as' bs → Each P (all marks bs)
all_marks P marks R K one [] [] k p = tt
all_marks P marks R K one [] (b ∷ bs) k p = absurd p
all_marks P marks R K one (a ∷ as') [] k p = absurd p
all_marks P marks R K one (a ∷ as') (b ∷ bs) k p = joined P (marks b) (all marks bs) (one a b k.0 p.0) (all_marks P marks R K one as' bs k.1 p.1)
