-- Look-ups in pairs of which the first of a number counts, and tables that hold them.
use Rattle.std.proofs.Common.{◌≡◌, ℕ, zero, suc, ◌<◌, Bool, true, false, List, [], ◌∷◌, ◌++◌, length, get_or, set, refl, sym, ap, subst, ◌∙◌, arith, inl, inr, get_or-set_same, get_or-set_other}
use Rattle.std.specs.Prelude.{nat_eq, if◌then◌else◌, Option, Some, None, is_none, ◌≢◌}
use Rattle.std.proofs.lemmas.Bool.{cases_eq}
use Rattle.ir_verify.specs.Tables.{found, Holds}

chosen : {T : Type 0} (b : Bool) (v w : Option T) → b ≡ true → (if b then v else w) ≡ v
chosen true v w e = refl
chosen false v w e = absurd (cc e)

pub found_first : {T : Type 0} (ps qs : List (ℕ × T)) (x : ℕ) (w : T) → found ps x ≡ Some w → found (ps ++ qs) x ≡ Some w
found_first [] qs x w e = absurd (cc e)
found_first (p ∷ ps) qs x w e = step (nat_eq p.0 x) e (found_first ps qs x w)
  where
    step : (b : Bool) → (if b then Some p.1 else found ps x) ≡ Some w → (found ps x ≡ Some w → found (ps ++ qs) x ≡ Some w) → (if b then Some p.1 else found (ps ++ qs) x) ≡ Some w
    step true d again = d
    step false d again = again d

pub found_last : {T : Type 0} (ps qs : List (ℕ × T)) (x : ℕ) → found ps x ≡ None → found (ps ++ qs) x ≡ found qs x
found_last [] qs x e = refl
found_last (p ∷ ps) qs x e = step (nat_eq p.0 x) e (found_last ps qs x)
  where
    step : (b : Bool) → (if b then Some p.1 else found ps x) ≡ None → (found ps x ≡ None → found (ps ++ qs) x ≡ found qs x) → (if b then Some p.1 else found (ps ++ qs) x) ≡ found qs x
    step true d again = absurd (cc d)
    step false d again = again d

within_any : {A : Type 0} (t : List A) (k : ℕ) (d c : A) → k < length t → get_or t k d ≡ get_or t k c
within_any [] k d c l = absurd (omega arith)
within_any (x ∷ t) zero d c l = refl
within_any (x ∷ t) (suc k) d c l = within_any t k d c (omega arith)

-- a pair behind the others counts where these have none of its number
pub found_other : {T : Type 0} (ps : List (ℕ × T)) (n x : ℕ) (v : T) → nat_eq n x ≡ false → found (ps ++ (n, v) ∷ []) x ≡ found ps x
found_other [] n x v e = rw e refl
found_other (p ∷ ps) n x v e = ap (λ rest. if nat_eq p.0 x then Some p.1 else rest) (found_other ps n x v e)

module _ {T : Type 0} (old new : List (Option T)) (ps : List (ℕ × T)) (n : ℕ) (v : T) (same : (x : ℕ) → get_or new x None ≡ get_or old x None) (long : n < length new) (holds : Holds old ps) where
  pub put_new : (r : Option T) → r ≡ get_or new n r → is_none r ≡ true → Holds (set new n (Some v)) (ps ++ (n, v) ∷ [])
  put_new None e h x = elim (cases_eq n x) [ inl q ↦ at q | inr q ↦ other q ]
    where
      none : found ps n ≡ None
      none = sym (holds n) ∙ sym (same n) ∙ sym (e ∙ read)
        where
          read : get_or new n None ≡ get_or new n None
          read = refl

      at : n ≡ x → get_or (set new n (Some v)) x None ≡ found (ps ++ (n, v) ∷ []) x
      at q = subst (λ (y : ℕ). get_or (set new n (Some v)) y None ≡ found (ps ++ (n, v) ∷ []) y) q (rw get_or-set_same (sym (found_last ps ((n, v) ∷ []) n none ∙ chosen (nat_eq n n) (Some v) None (grind arith))))

      other : (n ≡ x → ⊥) → get_or (set new n (Some v)) x None ≡ found (ps ++ (n, v) ∷ []) x
      other q =
          let apart : x ≢ n = λ d. q (sym d) in
          let no : nat_eq n x ≡ false = grind arith in
          rw get_or-set_other (same x ∙ holds x ∙ sym (found_other ps n x v no))
  put_new (Some w) e h x = absurd (cc h)

  pub put_old : (r : Option T) → r ≡ get_or new n r → is_none r ≡ false → Holds new (ps ++ (n, v) ∷ [])
  put_old None e h x = absurd (cc h)
  put_old (Some w) e h x = elim (cases_eq n x) [ inl q ↦ at q | inr q ↦ other q ]
    where
      read : get_or new n None ≡ Some w
      read = sym (e ∙ within_any new n (Some w) None long)

      some : found ps n ≡ Some w
      some = sym (holds n) ∙ sym (same n) ∙ read

      at : n ≡ x → get_or new x None ≡ found (ps ++ (n, v) ∷ []) x
      at q = subst (λ (y : ℕ). get_or new y None ≡ found (ps ++ (n, v) ∷ []) y) q (read ∙ sym (found_first ps ((n, v) ∷ []) n w some))

      other : (n ≡ x → ⊥) → get_or new x None ≡ found (ps ++ (n, v) ∷ []) x
      other q =
          let no : nat_eq n x ≡ false = grind arith in
          same x ∙ holds x ∙ sym (found_other ps n x v no)
