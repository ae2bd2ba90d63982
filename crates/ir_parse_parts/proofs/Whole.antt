-- What reading all tokens says of the form, and where a reading stops.
use Rattle.std.proofs.Common.{◌≡◌, ℕ, Bool, false, List, [], ◌∷◌, ◌++◌, length, Result, Ok, Err, refl, sym, ap, subst, ◌∙◌, append_assoc}
use Rattle.std.specs.Prelude.{IfOk, IfErr}
use Rattle.std.proofs.lemmas.List.{append-nil}
use Rattle.ir_parse_parts.specs.declared.fault.Fault.{Fault}
use Rattle.ir_parse_parts.specs.declared.fault.TokenFault.{TokenFault}
use Rattle.ir_parse_parts.specs.declared.fault.TokenFault.TheVariants.{Syntax, Profile, Number, Limit}
use Rattle.ir_tree.specs.declared.failure.Failure.{Failure}
use Rattle.ir_tree.specs.declared.failure.Failure.TheVariants as errors
use Rattle.ir_parse_parts.specs.Alphabet.{Alphabet, is_literal}
use Rattle.ir_tree.specs.Failures.{IfFault}
use Rattle.ir_parse_parts.specs.Faults.{Extends, NoNameGoesOn, NoNumberGoesOn, FitsKind, Dead, StopsAt}
use Rattle.ir_parse_parts.specs.Forms.{Form}
use Rattle.ir_parse_parts.specs.Lawful.{ends, Swapped, Lawful}
use Rattle.ir_parse_parts.specs.Readers.{Reader, fault_at, Returns, ended, whole_of}
use Rattle.ir_parse_parts.proofs.Composed.{reads, reads_is, wrong, wrong_is, right, right_is, cut_is}

module _ {T : Type 0} (alphabet : Alphabet T) where
  module _ {A : Type 0} (g wide : Form T A) (f : Reader T A) (first more : T → Bool) (empty : Bool) (extra : T → TokenFault) (not_number : (t : T) → extra t ≡ Number → ⊥) (law : Lawful alphabet g wide f first more empty) where
    pub reads_all : (ts : List T) (a : A) → g ts a → f ts ≡ reads a []
    reads_all ts a s = ap f (sym (append-nil ts)) ∙ law.complete ts [] a s tt

    pub whole_again : (ts : List T) (a : A) → g ts a → whole_of extra (f ts) ≡ Ok a
    whole_again ts a s = ap (whole_of extra) (reads_all ts a s)

    by_end : (ts rest : List T) (a b : A) → f ts ≡ reads a rest → ended extra a rest ≡ right b → g ts b
    by_end ts [] a b h d =
        let s = law.sound ts [] a h in
        let e : ts ≡ s.0 = s.1 ∙ append-nil s.0 in
        subst (λ (x : List T). g x b) (sym e) (subst (λ (x : A). g s.0 x) (right_is a b d) s.2)
    by_end ts (t ∷ rest) a b h d = absurd cc

    by_result : (ts : List T) (b : A) (r : Result (A × List T) Fault) → f ts ≡ r → whole_of extra r ≡ right b → g ts b
    by_result ts b (Ok x) h d = by_end ts x.1 x.0 b h d
    by_result ts b (Err e) h d = absurd cc

    pub whole_sound : (ts : List T) (b : A) → whole_of extra (f ts) ≡ right b → g ts b
    whole_sound ts b d = by_result ts b (f ts) refl d

    pub dead_err : (front rest : List T) (k : TokenFault) → f (front ++ rest) ≡ fault_at k rest → Dead g front rest
    dead_err front [] k h = λ a s. apart a (sym (reads_all front a s) ∙ ap f (sym (append-nil front)) ∙ h)
      where
        apart : (a : A) → reads {T = T} a [] ≡ fault_at k [] → ⊥
        apart a e = cc
    dead_err front (t ∷ rest) k h = λ v.
        let regrouped : (front ++ t ∷ []) ++ v.0 ≡ front ++ t ∷ v.0 = append_assoc front (t ∷ []) v.0 in
        let one : f (front ++ t ∷ v.0) ≡ reads v.1 [] = ap f (sym regrouped) ∙ reads_all ((front ++ t ∷ []) ++ v.0) v.1 v.2 in
        let two : f (front ++ t ∷ v.0) ≡ fault_at k (t ∷ v.0) = law.local front t rest v.0 (Err k) h in
        apart v.1 v.0 (sym one ∙ two)
      where
        apart : (a : A) (us : List T) → reads a [] ≡ fault_at k (t ∷ us) → ⊥
        apart a us e = cc

    pub dead_ok : (front : List T) (t : T) (rest : List T) (a : A) → f (front ++ t ∷ rest) ≡ reads a (t ∷ rest) → Dead g front (t ∷ rest)
    dead_ok front t rest a h = λ v.
        let regrouped : (front ++ t ∷ []) ++ v.0 ≡ front ++ t ∷ v.0 = append_assoc front (t ∷ []) v.0 in
        let one : f (front ++ t ∷ v.0) ≡ reads v.1 [] = ap f (sym regrouped) ∙ reads_all ((front ++ t ∷ []) ++ v.0) v.1 v.2 in
        let two : f (front ++ t ∷ v.0) ≡ reads a (t ∷ v.0) = law.local front t rest v.0 (Ok a) h in
        never v.0 (reads_is v.1 a [] (t ∷ v.0) (sym one ∙ two)).1
      where
        never : (us : List T) → [] ≡ t ∷ us → ⊥
        never us e = cc

    stops_ended : (ts rest : List T) (a : A) (e : Fault) → f ts ≡ reads a rest → ended extra a rest ≡ wrong e → StopsAt alphabet g ts e.left
    stops_ended ts [] a e h d = absurd cc
    stops_ended ts (t ∷ rest) a e h d =
        let s = law.sound ts (t ∷ rest) a h in
        record {
          front = s.0;
          rest = t ∷ rest;
          whole = s.1;
          here = ap (λ (x : Fault). x.left) (wrong_is (record { left = length (t ∷ rest); kind = extra t }) e d);
          before = ([], a, subst (λ (x : List T). g x a) (sym (append-nil s.0)) s.2, tt);
          dead = dead_ok s.0 t rest a (ap f (sym s.1) ∙ h);
        }

    stops_result : (ts : List T) (e : Fault) (r : Result (A × List T) Fault) → f ts ≡ r → whole_of extra r ≡ wrong e → StopsAt alphabet g ts e.left
    stops_result ts e (Ok x) h d = stops_ended ts x.1 x.0 e h d
    stops_result ts e (Err e') h d =
        let v = law.viable ts e' h in
        let same : e' ≡ e = wrong_is e' e d in
        let here : f (v.front ++ v.rest) ≡ fault_at e'.kind v.rest = ap f (sym v.whole) ∙ h ∙ ap (λ (n : ℕ). wrong (record { left = n; kind = e'.kind })) (sym v.here) in
        record {
          front = v.front;
          rest = v.rest;
          whole = v.whole;
          here = v.here ∙ ap (λ (x : Fault). x.left) same;
          before = (v.more, v.value, v.spelled, v.real);
          dead = dead_err v.front v.rest e'.kind here;
        }

    pub whole_stops : (ts : List T) (e : Fault) → whole_of extra (f ts) ≡ wrong e → StopsAt alphabet g ts e.left
    whole_stops ts e d = stops_result ts e (f ts) refl d

    -- ---- what a function says that gives this reading

    pub found : {X : Type 0} (view : X → A) (r : Result X (Failure Fault)) (ts : List T) → Returns view r (whole_of extra (f ts)) → IfOk r (λ x. g ts (view x))
    found view (Ok x) ts d = whole_sound ts (view x) d
    found view (Err e) ts d = tt

    pub only : {X : Type 0} (view : X → A) (r : Result X (Failure Fault)) (ts : List T) → Returns view r (whole_of extra (f ts)) → (a : A) → g ts a → Returns view r (Ok a)
    only view r ts d a s = subst (λ (x : Result A Fault). Returns view r x) (whole_again ts a s) d

    pub stops : {X : Type 0} (view : X → A) (r : Result X (Failure Fault)) (ts : List T) → Returns view r (whole_of extra (f ts)) → IfErr r (λ e. IfFault e (λ h. StopsAt alphabet g ts h.left))
    stops view (Ok x) ts d = tt
    stops view (Err errors.NoMemory) ts d = tt
    stops view (Err (errors.Fault h)) ts d = whole_stops ts h d

    -- ---- the kind

    swapped_dead : (front : List T) (u : T) → ((rest' : List T) → (r : Result A TokenFault) × (f (front ++ u ∷ rest') ≡ ends r (u ∷ rest'))) → Extends g (front ++ u ∷ []) → ⊥
    swapped_dead front u h v =
        let regrouped : (front ++ u ∷ []) ++ v.0 ≡ front ++ u ∷ v.0 = append_assoc front (u ∷ []) v.0 in
        let one : f (front ++ u ∷ v.0) ≡ reads v.1 [] = ap f (sym regrouped) ∙ reads_all ((front ++ u ∷ []) ++ v.0) v.1 v.2 in
        let w = h v.0 in
        apart v.1 v.0 w.0 (sym one ∙ w.1)
      where
        never : (us : List T) → [] ≡ u ∷ us → ⊥
        never us e = cc

        apart : (a : A) (us : List T) (r : Result A TokenFault) → reads a [] ≡ ends r (u ∷ us) → ⊥
        apart a us (Ok b) e = never us (reads_is a b [] (u ∷ us) e).1
        apart a us (Err k) e = cc

    of_swapped : (literal : Bool) (k : TokenFault) (r : Result (A × List T) Fault) (u : T) (rest : List T) → (k ≡ Number → ⊥) → (k ≡ Limit → literal ≡ false) → Swapped {A = A} literal (Err k) r u rest → (o : Result A TokenFault) × (r ≡ ends o (u ∷ rest))
    of_swapped literal Number r u rest never named s = absurd (never refl)
    of_swapped literal Syntax r u rest never named s = (Err s.0, s.1)
    of_swapped literal Profile r u rest never named s = (Err s.0, s.1)
    of_swapped literal Limit r u rest never named s = let w = s (named refl) in (Err w.0, w.1)

    no_number_err : (ts : List T) (left : ℕ) (k : TokenFault) → (k ≡ Number → ⊥) → (k ≡ Limit → ⊥) → f ts ≡ wrong (record { left = left; kind = k }) → NoNumberGoesOn alphabet g ts left
    no_number_err ts left k never bounded h front t rest whole here n u m =
        swapped_dead front u (λ rest'. of_swapped (is_literal alphabet t) k (f (front ++ u ∷ rest')) u rest' never (λ e. absurd (bounded e)) (law.swap front t u rest rest' (Err k) n m (ap f (sym whole) ∙ h ∙ ap (λ (l : ℕ). wrong (record { left = l; kind = k })) (sym here))))

    no_name_err : (ts : List T) (left : ℕ) → f ts ≡ wrong (record { left = left; kind = Limit }) → NoNameGoesOn alphabet g ts left
    no_name_err ts left h front t rest whole here n l u m =
        swapped_dead front u (λ rest'. of_swapped (is_literal alphabet t) Limit (f (front ++ u ∷ rest')) u rest' (λ e. cc) (λ e. l) (law.swap front t u rest rest' (Err Limit) n m (ap f (sym whole) ∙ h ∙ ap (λ (l : ℕ). wrong (record { left = l; kind = Limit })) (sym here))))

    no_number_ok : (ts : List T) (v : T) (vs : List T) (a : A) → f ts ≡ reads a (v ∷ vs) → NoNumberGoesOn alphabet g ts (length (v ∷ vs))
    no_number_ok ts v vs a h front t rest whole here n u m =
        let s = law.sound ts (v ∷ vs) a h in
        let c = cut_is front (t ∷ rest) s.0 (v ∷ vs) (sym whole ∙ s.1) here in
        swapped_dead front u (λ rest'. (Ok a, law.swap front t u rest rest' (Ok a) n m (ap f (sym whole) ∙ h ∙ ap (reads a) (sym c.1))))

    kind_err : (ts : List T) (e : Fault) → f ts ≡ wrong e → FitsKind alphabet g ts e.left e.kind
    kind_err ts e h = by_kind e.kind refl
      where
        by_kind : (k : TokenFault) → e.kind ≡ k → FitsKind alphabet g ts e.left k
        by_kind Number d = law.number ts e.left (h ∙ ap (λ (k : TokenFault). wrong (record { left = e.left; kind = k })) d)
        by_kind Syntax d = no_number_err ts e.left Syntax (λ x. cc) (λ x. cc) (h ∙ ap (λ (k : TokenFault). wrong (record { left = e.left; kind = k })) d)
        by_kind Profile d = no_number_err ts e.left Profile (λ x. cc) (λ x. cc) (h ∙ ap (λ (k : TokenFault). wrong (record { left = e.left; kind = k })) d)
        by_kind Limit d = no_name_err ts e.left (h ∙ ap (λ (k : TokenFault). wrong (record { left = e.left; kind = k })) d)

    kind_ended : (ts rest : List T) (a : A) (e : Fault) → f ts ≡ reads a rest → ended extra a rest ≡ wrong e → FitsKind alphabet g ts e.left e.kind
    kind_ended ts [] a e h d = absurd cc
    kind_ended ts (t ∷ rest) a e h d =
        subst (λ (x : Fault). FitsKind alphabet g ts x.left x.kind) (wrong_is (record { left = length (t ∷ rest); kind = extra t }) e d) (by_kind (extra t) (not_number t))
      where
        by_kind : (k : TokenFault) → (k ≡ Number → ⊥) → FitsKind alphabet g ts (length (t ∷ rest)) k
        by_kind Number never = absurd (never refl)
        by_kind Syntax never = no_number_ok ts t rest a h
        by_kind Profile never = no_number_ok ts t rest a h
        by_kind Limit never = λ front t' rest' whole here n l. no_number_ok ts t rest a h front t' rest' whole here n

    kind_result : (ts : List T) (e : Fault) (r : Result (A × List T) Fault) → f ts ≡ r → whole_of extra r ≡ wrong e → FitsKind alphabet g ts e.left e.kind
    kind_result ts e (Ok x) h d = kind_ended ts x.1 x.0 e h d
    kind_result ts e (Err e') h d = subst (λ (x : Fault). FitsKind alphabet g ts x.left x.kind) (wrong_is e' e d) (kind_err ts e' h)

    pub kind : {X : Type 0} (view : X → A) (r : Result X (Failure Fault)) (ts : List T) → Returns view r (whole_of extra (f ts)) → IfErr r (λ e. IfFault e (λ h. FitsKind alphabet g ts h.left h.kind))
    kind view (Ok x) ts d = tt
    kind view (Err errors.NoMemory) ts d = tt
    kind view (Err (errors.Fault h)) ts d = kind_result ts h (f ts) refl d

    pub whole_kind : (ts : List T) (e : Fault) → whole_of extra (f ts) ≡ wrong e → FitsKind alphabet g ts e.left e.kind
    whole_kind ts e d = kind_result ts e (f ts) refl d
