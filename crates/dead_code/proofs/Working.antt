-- What holds of a work list, of what is kept and of what is left to read.
use Rattle.std.proofs.Common.{◌≡◌, ℕ, ◌==◌, Bool, true, false, cond, ◌⊎◌, inl, inr, List, [], ◌∷◌, ◌++◌, refl, sym, ◌∙◌, ap, subst, arith}
use Rattle.std.proofs.lemmas.Bool.Decides.{nat_tests}
use Rattle.dead_code.specs.Closure.{AllIn, IsClosedUnder, IsLeastUnder}

pub record Working (first : List ℕ) (read : ℕ → List ℕ) (kept : ℕ → Bool) (left : ℕ → List ℕ) (work : List ℕ) : Type 0 where
  -- what is read for a local leaves as the local is kept
  pub left_is : (x : ℕ) → left x ≡ cond (kept x) [] (read x)
  -- each closed set has what is kept and what is to be kept
  pub least : (s : ℕ → Bool) → IsClosedUnder first read s → ((x : ℕ) → kept x ≡ true → s x ≡ true) × AllIn s work
  -- what is kept and what is to be kept are closed together
  pub closing : (s : ℕ → Bool) → ((x : ℕ) → kept x ≡ true → s x ≡ true) → AllIn s work
      → AllIn s first × ((x : ℕ) → kept x ≡ true → AllIn s (read x))

all_in_both : (s : ℕ → Bool) (xs ys : List ℕ) → AllIn s xs → AllIn s ys → AllIn s (xs ++ ys)
all_in_both s [] ys h g = g
all_in_both s (x ∷ xs) ys h g = (h.0, all_in_both s xs ys h.1 g)

all_in_parts : (s : ℕ → Bool) (xs ys : List ℕ) → AllIn s (xs ++ ys) → AllIn s xs × AllIn s ys
all_in_parts s [] ys h = (tt, h)
all_in_parts s (x ∷ xs) ys h = let more : AllIn s xs × AllIn s ys = all_in_parts s xs ys h.1 in ((h.0, more.0), more.1)

same_number : (y x : ℕ) → (y == x) ≡ true → y ≡ x
same_number y x h = grind (arith, nat_tests)

is_same : (y : ℕ) → (y == y) ≡ true
is_same y = grind (arith, nat_tests)

-- what is kept then is the new local or was kept before
kept_then : (b : Bool) (y x : ℕ) (m k : Bool) → (y == x) ≡ b → m ≡ cond b true k → m ≡ true → (y ≡ x) ⊎ (k ≡ true)
kept_then true y x m k test is h = inl (same_number y x test)
kept_then false y x m k test is h = inr (sym is ∙ h)

still_kept : (b m k : Bool) → m ≡ cond b true k → k ≡ true → m ≡ true
still_kept true m k is h = is
still_kept false m k is h = is ∙ h

left_then : (b m k : Bool) (l r read : List ℕ) → m ≡ cond b true k → l ≡ cond b [] r → r ≡ cond k [] read → l ≡ cond m [] read
left_then true m k l r read is left_is was = left_is ∙ sym (ap (λ (v : Bool). cond v [] read) is)
left_then false m k l r read is left_is was = left_is ∙ was ∙ sym (ap (λ (v : Bool). cond v [] read) is)

-- what is left for y is nothing, or all that is read
brought : (s : ℕ → Bool) (k : Bool) (row read : List ℕ) → row ≡ cond k [] read → AllIn s read → AllIn s row
brought s true row read is h = subst (AllIn s) (sym is) tt
brought s false row read is h = subst (AllIn s) (sym is) h

read_there : (s : ℕ → Bool) (k : Bool) (row read : List ℕ) → row ≡ cond k [] read → (k ≡ true → AllIn s read) → AllIn s row → AllIn s read
read_there s true row read is h g = h refl
read_there s false row read is h g = subst (AllIn s) is g

module _ (first : List ℕ) (read : ℕ → List ℕ) where
  pub opening : (kept : ℕ → Bool) (left : ℕ → List ℕ) → ((x : ℕ) → kept x ≡ false) → ((x : ℕ) → left x ≡ read x) → Working first read kept left first
  opening kept left none all = record {
    left_is = λ x. all x ∙ sym (ap (λ (b : Bool). cond b [] (read x)) (none x));
    least = λ s closed. (λ x h. absurd (nothing x h), closed.0);
    closing = λ s more h. (h, λ x k. absurd (nothing x k));
  }
    where
      nothing : (x : ℕ) → kept x ≡ true → ⊥
      nothing x h = let e : false ≡ true = sym (none x) ∙ h in cc

  -- y is taken from the work list and kept, and what is left for it comes to the list
  pub one_kept : (kept more : ℕ → Bool) (left then : ℕ → List ℕ) (work rest next : List ℕ) (y : ℕ)
      → work ≡ rest ++ y ∷ [] → next ≡ rest ++ left y
      → ((x : ℕ) → more x ≡ cond (y == x) true (kept x)) → ((x : ℕ) → then x ≡ cond (y == x) [] (left x))
      → Working first read kept left work → Working first read more then next
  one_kept kept more left then work rest next y work_is next_is more_is then_is w = record {
    left_is = λ x. left_then (y == x) (more x) (kept x) (then x) (left x) (read x) (more_is x) (then_is x) (w.left_is x);
    least = λ s closed. least_then s closed (w.least s closed);
    closing = λ s over h. closing_then s over (all_in_parts s rest (left y) (subst (AllIn s) next_is h));
  }
    where
      taken : (s : ℕ → Bool) → AllIn s work → AllIn s rest × (s y ≡ true)
      taken s h = let parts : AllIn s rest × AllIn s (y ∷ []) = all_in_parts s rest (y ∷ []) (subst (AllIn s) work_is h) in (parts.0, parts.1.0)

      has : (s : ℕ → Bool) (x : ℕ) → s y ≡ true → ((x : ℕ) → kept x ≡ true → s x ≡ true) → (y ≡ x) ⊎ (kept x ≡ true) → s x ≡ true
      has s x h old (inl e) = ap s (sym e) ∙ h
      has s x h old (inr k) = old x k

      least_then : (s : ℕ → Bool) → IsClosedUnder first read s → ((x : ℕ) → kept x ≡ true → s x ≡ true) × AllIn s work
          → ((x : ℕ) → more x ≡ true → s x ≡ true) × AllIn s next
      least_then s closed old =
          let t : AllIn s rest × (s y ≡ true) = taken s old.1 in (
            λ x h. has s x t.1 old.0 (kept_then (y == x) y x (more x) (kept x) refl (more_is x) h),
            subst (AllIn s) (sym next_is) (all_in_both s rest (left y) t.0 (brought s (kept y) (left y) (read y) (w.left_is y) (closed.1 y t.1))),
          )

      reads : (s : ℕ → Bool) (x : ℕ) → ((x : ℕ) → kept x ≡ true → AllIn s (read x)) → AllIn s (left y) → (y ≡ x) ⊎ (kept x ≡ true) → AllIn s (read x)
      reads s x old h (inl e) = subst (λ (z : ℕ). AllIn s (read z)) e (read_there s (kept y) (left y) (read y) (w.left_is y) (old y) h)
      reads s x old h (inr k) = old x k

      closing_then : (s : ℕ → Bool) → ((x : ℕ) → more x ≡ true → s x ≡ true) → AllIn s rest × AllIn s (left y)
          → AllIn s first × ((x : ℕ) → more x ≡ true → AllIn s (read x))
      closing_then s over h =
          let y_in : s y ≡ true = over y (more_is y ∙ ap (λ (b : Bool). cond b true (kept y)) (is_same y)) in
          let old : AllIn s first × ((x : ℕ) → kept x ≡ true → AllIn s (read x)) =
          w.closing s (λ x k. over x (still_kept (y == x) (more x) (kept x) (more_is x) k)) (subst (AllIn s) (sym work_is) (all_in_both s rest (y ∷ []) h.0 (y_in, tt))) in
          (old.0, λ x k. reads s x old.1 h.1 (kept_then (y == x) y x (more x) (kept x) refl (more_is x) k))

  -- nothing is left to be kept
  pub finished : (kept : ℕ → Bool) (left : ℕ → List ℕ) (work : List ℕ) → work ≡ [] → Working first read kept left work → IsLeastUnder first read kept
  finished kept left work none w = record {
    closed = w.closing kept (λ x h. h) (subst (AllIn kept) (sym none) tt);
    least = λ s closed. (w.least s closed).0;
  }
