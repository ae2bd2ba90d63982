-- Where a fault is of no limit, and of no name's number, no reading without the limits goes on.
use Rattle.std.proofs.Common.{◌≡◌, ℕ, Bool, true, false, true≢false, List, [], ◌∷◌, ◌++◌, length, Result, Ok, Err, refl, sym, ap, subst, ◌∙◌, append_assoc, inl, inr}
use Rattle.std.proofs.lemmas.List.{append-nil}
use Rattle.ir_parse_parts.specs.declared.fault.Fault.{Fault}
use Rattle.ir_parse_parts.specs.declared.fault.TokenFault.{TokenFault}
use Rattle.ir_parse_parts.specs.declared.fault.TokenFault.TheVariants.{Syntax, Profile, Number, Limit}
use Rattle.ir_parse_parts.specs.Alphabet.{Alphabet, is_literal}
use Rattle.ir_parse_parts.specs.Faults.{Extends, FitsBound, NoneGoesOn}
use Rattle.ir_parse_parts.specs.Forms.{Form}
use Rattle.ir_parse_parts.specs.Lawful.{Bounded, IsBound, Lawful, UpTo, ends}
use Rattle.ir_parse_parts.specs.Readers.{Reader, ended, whole_of}
use Rattle.ir_parse_parts.proofs.Composed.{bounded_too, cons_is, cut_is, reads, reads_is, wrong, wrong_is}

bound_is : (k : TokenFault) → IsBound k → (k ≡ Number → ⊥) → (k ≡ Limit → ⊥) → ⊥
bound_is Number b n l = n refl
bound_is Limit b n l = l refl
bound_is Syntax b n l = b
bound_is Profile b n l = b

module _ {T A : Type 0} (alphabet : Alphabet T) (g wide : Form T A) (f : Reader T A) (first more : T → Bool) (empty : Bool) (extra : T → TokenFault) (not_number : (t : T) → extra t ≡ Number → ⊥) (not_limit : (t : T) → extra t ≡ Limit → ⊥) (law : Lawful alphabet g wide f first more empty) where
  -- how a reading of all ends that the form without the limits has
  reads_wide : (ts : List T) (a : A) → wide ts a → UpTo alphabet ts (f ts) (reads a [])
  reads_wide ts a s = subst (λ (us : List T). UpTo alphabet us (f us) (reads a [])) (append-nil ts) (law.broad.reads ts [] a s tt)

  -- a reading that ends here, otherwise than by a limit, ends any that goes on with the token
  none_further : (front : List T) (t : T) (rest : List T) (o : Result A TokenFault) → f (front ++ t ∷ rest) ≡ ends o (t ∷ rest) → ((us : List T) → Bounded alphabet (front ++ t ∷ us) (ends o (t ∷ us)) → ⊥) → Extends wide (front ++ t ∷ []) → ⊥
  none_further front t rest o h never v =
      let regrouped : (front ++ t ∷ []) ++ v.0 ≡ front ++ t ∷ v.0 = append_assoc front (t ∷ []) v.0 in
      by_read v.0 v.1 (law.local front t rest v.0 o h) (subst (λ (us : List T). UpTo alphabet us (f us) (reads v.1 [])) regrouped (reads_wide ((front ++ t ∷ []) ++ v.0) v.1 v.2))
    where
      not_all : (o : Result A TokenFault) (us : List T) (a : A) → ends o (t ∷ us) ≡ reads a [] → ⊥
      not_all (Ok b) us a e = not_nil us (reads_is b a (t ∷ us) [] e).1
        where
          not_nil : (us : List T) → t ∷ us ≡ [] → ⊥
          not_nil us e = cc
      not_all (Err k) us a e = cc

      by_read : (us : List T) (a : A) → f (front ++ t ∷ us) ≡ ends o (t ∷ us) → UpTo alphabet (front ++ t ∷ us) (f (front ++ t ∷ us)) (reads a []) → ⊥
      by_read us a i (inl e) = not_all o us a (sym i ∙ e)
      by_read us a i (inr w) = never us (bounded_too (ends o (t ∷ us)) (λ x d. sym i ∙ d) w)

  -- a fault is at its token, and of its kind
  ends_so : (front : List T) (t : T) (us : List T) (k : TokenFault) (w : Bounded alphabet (front ++ t ∷ us) (ends {A = A} (Err k) (t ∷ us))) → (k ≡ w.kind) × (t ≡ w.bad)
  ends_so front t us k w =
      let e = wrong_is {X = A × List T} (record { left = length (t ∷ us); kind = k }) (record { left = length (w.bad ∷ w.rest); kind = w.kind }) w.ends in
      (ap (λ (x : Fault). x.kind) e, (cons_is t w.bad us w.rest (cut_is front (t ∷ us) w.front (w.bad ∷ w.rest) w.whole (ap (λ (x : Fault). x.left) e)).1).0)

  none_err : (ts : List T) (left : ℕ) (k : TokenFault) → (k ≡ Limit → ⊥) → f ts ≡ wrong (record { left = left; kind = k }) → (front : List T) (t : T) (rest : List T) → ts ≡ front ++ t ∷ rest → length (t ∷ rest) ≡ left → (k ≡ Number → is_literal alphabet t ≡ true) → Extends wide (front ++ t ∷ []) → ⊥
  none_err ts left k l h front t rest whole here literal =
      none_further front t rest (Err k) (ap f (sym whole) ∙ h ∙ ap (λ (m : ℕ). wrong (record { left = m; kind = k })) (sym here))
      (λ us w. let e = ends_so front t us k w in bound_is w.kind w.bound (λ q. true≢false (sym (literal (e.0 ∙ q)) ∙ ap (is_literal alphabet) e.1 ∙ w.named q)) (λ q. l (e.0 ∙ q)))

  none_ok : (ts : List T) (v : T) (vs : List T) (a : A) → f ts ≡ reads a (v ∷ vs) → NoneGoesOn alphabet wide ts (length (v ∷ vs))
  none_ok ts v vs a h front t rest whole here =
      let s = law.sound ts (v ∷ vs) a h in
      let c = cut_is front (t ∷ rest) s.0 (v ∷ vs) (sym whole ∙ s.1) here in
      none_further front t rest (Ok a) (ap f (sym whole) ∙ h ∙ ap (reads a) (sym c.1)) (λ us w. apart us (record { left = length (w.bad ∷ w.rest); kind = w.kind }) w.ends)
    where
      apart : (us : List T) (x : Fault) → reads a (t ∷ us) ≡ wrong x → ⊥
      apart us x e = cc

  bound_err : (ts : List T) (left : ℕ) (k : TokenFault) → f ts ≡ wrong (record { left = left; kind = k }) → FitsBound alphabet wide ts left k
  bound_err ts left Limit h = law.limit ts left h
  bound_err ts left Number h = λ front t rest whole here literal. none_err ts left Number (λ e. cc) h front t rest whole here (λ e. literal)
  bound_err ts left Syntax h = λ front t rest whole here. none_err ts left Syntax (λ e. cc) h front t rest whole here (λ e. absurd cc)
  bound_err ts left Profile h = λ front t rest whole here. none_err ts left Profile (λ e. cc) h front t rest whole here (λ e. absurd cc)

  over : (ts rest : List T) (a : A) (e : Fault) → f ts ≡ reads a rest → ended extra a rest ≡ wrong e → FitsBound alphabet wide ts e.left e.kind
  over ts [] a e h d = absurd cc
  over ts (t ∷ rest) a e h d = subst (λ (x : Fault). FitsBound alphabet wide ts x.left x.kind) (wrong_is {X = A} (record { left = length (t ∷ rest); kind = extra t }) e d) (by_kind (extra t) (not_limit t))
    where
      by_kind : (k : TokenFault) → (k ≡ Limit → ⊥) → FitsBound alphabet wide ts (length (t ∷ rest)) k
      by_kind Limit never = absurd (never refl)
      by_kind Number never = λ front t' rest' whole here literal. none_ok ts t rest a h front t' rest' whole here
      by_kind Syntax never = none_ok ts t rest a h
      by_kind Profile never = none_ok ts t rest a h

  pub whole_bound : (ts : List T) (e : Fault) → whole_of extra (f ts) ≡ wrong e → FitsBound alphabet wide ts e.left e.kind
  whole_bound ts e d = by_result (f ts) refl d
    where
      by_result : (r : Result (A × List T) Fault) → f ts ≡ r → whole_of extra r ≡ wrong e → FitsBound alphabet wide ts e.left e.kind
      by_result (Ok x) h d = over ts x.1 x.0 e h d
      by_result (Err e') h d = subst (λ (x : Fault). FitsBound alphabet wide ts x.left x.kind) (wrong_is {X = A} e' e d) (bound_err ts e'.left e'.kind h)
