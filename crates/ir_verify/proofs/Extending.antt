-- Loops that put pairs into a table.
use Rattle.std.proofs.Common.{◌≡◌, ℕ, suc, ◌<◌, ◌+◌, List, [], ◌∷◌, ◌++◌, length, get_or, drop, refl, sym, ap, subst, ◌∙◌, arith, append_assoc, drop-cons}
use Rattle.std.specs.Prelude.{Option}
use Rattle.std.proofs.lemmas.Grind.{common_steps}
use Rattle.std.proofs.lemmas.List.{append-nil}
use Rattle.ir_verify.specs.Tables.{Holds}
use Rattle.ir_verify.specs.Definitions.{Extends}

pub nothing_more : {T : Type 0} (t : List (Option T)) → Extends t t []
nothing_more t pairs h = subst (λ qs. Holds t qs) (sym (append-nil pairs)) h

pub and_more : {T : Type 0} (a b c : List (Option T)) (qs rs : List (ℕ × T)) → Extends a b qs → Extends b c rs → Extends a c (qs ++ rs)
and_more a b c qs rs h k pairs p = subst (λ ps. Holds c ps) (append_assoc pairs qs rs) (k (pairs ++ qs) (h pairs p))

-- what a loop over a list has put, and what is left
pub record Along {T X : Type 0} (f : ℕ → List X → List (ℕ × T)) (xs : List X) (i : ℕ) (old new : List (Option T)) : Type 0 where
  pub done : List (ℕ × T)
  pub put : Extends old new done
  pub rest : done ++ f i (drop i xs) ≡ f 0 xs

pub along_none : {T X : Type 0} (f : ℕ → List X → List (ℕ × T)) (xs : List X) (t : List (Option T)) → Along f xs 0 t t
along_none f xs t = record { done = []; put = nothing_more t; rest = refl }

pub along_more : {T X : Type 0} (f : ℕ → List X → List (ℕ × T)) (g : ℕ → X → List (ℕ × T)) → ((k : ℕ) (y : X) (ys : List X) → f k (y ∷ ys) ≡ g k y ++ f (suc k) ys) → (xs : List X) (i j : ℕ) (d : X) (a b c : List (Option T)) → j ≡ suc i → i < length xs → Along f xs i a b → Extends b c (g i (get_or xs i d)) → Along f xs j a c
along_more f g step xs i j d a b c e l h k =
    subst (λ (n : ℕ). Along f xs n a c) (sym e) (record {
      done = h.done ++ g i (get_or xs i d);
      put = and_more a b c h.done (g i (get_or xs i d)) h.put k;
      rest =
          append_assoc h.done (g i (get_or xs i d)) (f (suc i) (drop (suc i) xs))
          ∙ ap (λ qs. h.done ++ qs) (sym (step i (get_or xs i d) (drop (suc i) xs)))
          ∙ ap (λ ys. h.done ++ f i ys) (sym (drop-cons xs i d l))
          ∙ h.rest;
    })

pub along_all : {T X : Type 0} (f : ℕ → List X → List (ℕ × T)) (xs : List X) (i : ℕ) (a b : List (Option T)) → ((k : ℕ) → f k [] ≡ []) → i ≡ length xs → Along f xs i a b → Extends a b (f 0 xs)
along_all f xs i a b none e h =
    let all : drop i xs ≡ [] = ap (λ n. drop n xs) e ∙ grind (arith, common_steps) in
    let is : h.done ≡ f 0 xs = sym (append-nil h.done) ∙ ap (λ qs. h.done ++ qs) (sym (none i) ∙ ap (f i) (sym all)) ∙ h.rest in
    subst (λ qs. Extends a b qs) is h.put

pub along_step : {T X : Type 0} (f : ℕ → List X → List (ℕ × T)) (g : ℕ → X → List (ℕ × T)) → ((k : ℕ) (y : X) (ys : List X) → f k (y ∷ ys) ≡ g k y ++ f (suc k) ys) → (xs : List X) (i : ℕ) (x : X) (a b c : List (Option T)) → i < length xs → x ≡ get_or xs i x → Along f xs i a b → Extends b c (g i x) → Along f xs (i + 1) a c
along_step f g step xs i x a b c l is h k = along_more f g step xs i (i + 1) x a b c (omega arith) l h (subst (λ y. Extends b c (g i y)) is k)
