-- The least name that breaks a rule, and what that says of the modules.
use Rattle.std.proofs.Common.{◌≡◌, ◌≢◌, ◌∙◌, ◌⊎◌, inl, inr, ℕ, sym, ap, subst, refl, Bool, true, false, cond, List, [], ◌∷◌, Option, Some, None, Bor, ◌+◌, ◌<◌, zero, suc, length, drop, slice_get, add-one, arith}
use Rattle.std.proofs.lemmas.Cmp.{nat_list_cmp_total}
use Rattle.std.proofs.lemmas.Slice.Eq.{bytes_eq-Decides}
use Rattle.std.specs.Cmp.Lexicographic.{slice_cmp}
use Rattle.std.specs.Map.{lookup}
use Rattle.std.specs.Ordering.{nat_cmp, ordering_reverse}
use Rattle.std.specs.Str.{bytes_eq}
use Rattle.std.specs.declared.cmp.Ordering.{Ordering}
use Rattle.std.specs.declared.cmp.Ordering.TheVariants.{Less, Equal, Greater}
use Rattle.symbol_resolve.specs.Listed.{Entries, Conflict, Listing, conflict, known, least_from, lesser, lesser_of, or_unknown, pairs, prevails, settled}
use Rattle.ir_tree.specs.NameOrder.{comes_before, is_less}
use Rattle.symbol_resolve.specs.Resolved.{module_of}
use Rattle.symbol_resolve.specs.declared.facts.Facts.{Facts}
use Rattle.symbol_resolve.specs.declared.least.LinkRule.{LinkRule}
use Rattle.symbol_resolve.specs.declared.least.LinkRule.TheVariants as rule

-- ---- order

abbrev cmp : List ℕ → List ℕ → Ordering
cmp = slice_cmp nat_cmp

abbrev pub AtMost : List ℕ → List ℕ → Type 0
AtMost a b = cmp a b ≢ Greater

turned : (a b : List ℕ) → cmp a b ≡ ordering_reverse (cmp b a)
turned = nat_list_cmp_total.antisymm

itself : (a : List ℕ) → AtMost a a
itself a h = let twice : Greater ≡ Less = sym h ∙ turned a a ∙ ap ordering_reverse h in cc

less_then : (a b : List ℕ) → comes_before a b ≡ true → AtMost a b
less_then a b h g = let no : is_less Greater ≡ true = sym (ap is_less g) ∙ h in cc

not_less_then : (a b : List ℕ) → comes_before a b ≡ false → AtMost b a
not_less_then a b h g = let no : is_less Less ≡ false = sym (ap is_less (turned a b ∙ ap ordering_reverse g)) ∙ h in cc

through : (a b c : List ℕ) → AtMost a b → AtMost b c → AtMost a c
through a b c ab bc = by (cmp a b) (cmp b c) refl refl
  where
    by : (x y : Ordering) → cmp a b ≡ x → cmp b c ≡ y → AtMost a c
    by Less Less h g more = let both : Greater ≡ Less = sym more ∙ nat_list_cmp_total.trans a b c h g in cc
    by Less Equal h g more =
        let back : cmp b a ≡ cmp c a = nat_list_cmp_total.congr b c a g in
        let same : cmp a c ≡ cmp a b = turned a c ∙ ap ordering_reverse (sym back) ∙ sym (turned a b) in
        let less : Greater ≡ Less = sym more ∙ same ∙ h in cc
    by Less Greater h g more = bc g
    by Equal y h g more = bc (sym (nat_list_cmp_total.congr a b c h) ∙ more)
    by Greater y h g more = ab h

-- ---- the least

lesser_is : (best : Option Conflict) (e : Conflict) → (r : Conflict) × (lesser best e ≡ Some r) × AtMost r.0 e.0 × ((b : Conflict) → best ≡ Some b → AtMost r.0 b.0) × ((r ≡ e) ⊎ (best ≡ Some r))
lesser_is None e = (e, refl, itself e.0, λ b h. absurd (none h), inl refl)
  where
    none : {b : Conflict} → None ≡ Some b → ⊥
    none h = cc
lesser_is (Some best) e = by (comes_before e.0 best.0) refl
  where
    inside : {b : Conflict} → Some best ≡ Some b → best ≡ b
    inside h = cc

    by : (v : Bool) → comes_before e.0 best.0 ≡ v
        → (r : Conflict) × (lesser (Some best) e ≡ Some r) × AtMost r.0 e.0 × ((b : Conflict) → Some best ≡ Some b → AtMost r.0 b.0) × ((r ≡ e) ⊎ (Some best ≡ Some r))
    by true h = (
      e,
      ap (λ (c : Bool). cond c (Some e) (Some best)) h,
      itself e.0,
      λ b same. subst (λ (x : Conflict). AtMost e.0 x.0) (inside same) (less_then e.0 best.0 h),
      inl refl,
    )
    by false h = (
      best,
      ap (λ (c : Bool). cond c (Some e) (Some best)) h,
      not_less_then e.0 best.0 h,
      λ b same. subst (λ (x : Conflict). AtMost best.0 x.0) (inside same) (itself best.0),
      inr refl,
    )

abbrev pub Among : List ℕ × Facts → Listing → Type 0
Among x [] = ⊥
Among x (y ∷ ys) = (x ≡ y) ⊎ Among x ys

-- what is found is one of the names, or was there before
abbrev IsFrom : LinkRule → Option Conflict → Entries → Conflict → Type 0
IsFrom rule best es r = ((f : Facts) × Among (r.0, f) (pairs es) × (conflict rule f ≡ Some r.1)) ⊎ (best ≡ Some r)

abbrev IsLowest : LinkRule → Option Conflict → Entries → Conflict → Type 0
IsLowest rule best es r = ((n : List ℕ) (p : ℕ × ℕ) → conflict rule (known es n) ≡ Some p → AtMost r.0 n) × ((b : Conflict) → best ≡ Some b → AtMost r.0 b.0)

none_unknown : (rule : LinkRule) (p : ℕ × ℕ) → conflict rule (or_unknown None) ≡ Some p → ⊥
none_unknown rule.OneDefinition p h = cc
none_unknown rule.OneKind p h = cc

-- what is known of a name is known by the first entry or by the others
known_first : (e : Bor (List ℕ) × Facts) (es : Entries) (n : List ℕ) → bytes_eq n e.0.now ≡ true → known (e ∷ es) n ≡ e.1
known_first e es n h = ap (λ (c : Bool). or_unknown (cond c (Some e.1) (lookup (λ key. bytes_eq n key.now) es))) h

known_later : (e : Bor (List ℕ) × Facts) (es : Entries) (n : List ℕ) → bytes_eq n e.0.now ≡ false → known (e ∷ es) n ≡ known es n
known_later e es n h = ap (λ (c : Bool). or_unknown (cond c (Some e.1) (lookup (λ key. bytes_eq n key.now) es))) h

-- one more name, where the least of the others is known
least_step : (rule : LinkRule) (best : Option Conflict) (e : Bor (List ℕ) × Facts) (es : Entries) (r : Conflict) → least_from rule best (pairs (e ∷ es)) ≡ Some r
    → ((other : Option Conflict) → least_from rule other (pairs es) ≡ Some r → IsFrom rule other es r × IsLowest rule other es r)
    → IsFrom rule best (e ∷ es) r × IsLowest rule best (e ∷ es) r
least_step rule best e es r h ih = by (conflict rule e.1) refl
  where
    rest : (o : Option (ℕ × ℕ)) → conflict rule e.1 ≡ o → IsFrom rule (lesser_of best e.0.now o) es r × IsLowest rule (lesser_of best e.0.now o) es r
    rest o c = ih (lesser_of best e.0.now o) (ap (λ (z : Option (ℕ × ℕ)). least_from rule (lesser_of best e.0.now z) (pairs es)) (sym c) ∙ h)

    further : IsFrom rule best es r → IsFrom rule best (e ∷ es) r
    further (inl (f, a, c)) = inl (f, inr a, c)
    further (inr is) = inr is

    -- a name of the others, or this one
    others : ((n : List ℕ) (p : ℕ × ℕ) → conflict rule (known es n) ≡ Some p → AtMost r.0 n) → ((p : ℕ × ℕ) → conflict rule e.1 ≡ Some p → AtMost r.0 e.0.now)
        → (n : List ℕ) (p : ℕ × ℕ) → conflict rule (known (e ∷ es) n) ≡ Some p → AtMost r.0 n
    others low here n p c = which (bytes_eq n e.0.now) refl
      where
        which : (b : Bool) → bytes_eq n e.0.now ≡ b → AtMost r.0 n
        which true is = subst (AtMost r.0) (sym ((bytes_eq-Decides n e.0.now).0 is)) (here p (ap (conflict rule) (sym (known_first e es n is)) ∙ c))
        which false is = low n p (ap (conflict rule) (sym (known_later e es n is)) ∙ c)

    by : (o : Option (ℕ × ℕ)) → conflict rule e.1 ≡ o → IsFrom rule best (e ∷ es) r × IsLowest rule best (e ∷ es) r
    by None c =
        let found : IsFrom rule best es r × IsLowest rule best es r = rest None c in
        (further found.0, (others found.1.0 (λ p is. absurd (never p (sym c ∙ is))), found.1.1))
      where
        never : (p : ℕ × ℕ) → None ≡ Some p → ⊥
        never p h = cc
    by (Some p) c =
        let now : (q : Conflict) × (lesser best (e.0.now, p) ≡ Some q) × AtMost q.0 e.0.now × ((b : Conflict) → best ≡ Some b → AtMost q.0 b.0) × ((q ≡ (e.0.now, p)) ⊎ (best ≡ Some q)) = lesser_is best (e.0.now, p) in
        let found : IsFrom rule (lesser best (e.0.now, p)) es r × IsLowest rule (lesser best (e.0.now, p)) es r = rest (Some p) c in
        let low : AtMost r.0 now.0.0 = found.1.1 now.0 now.1 in (
          came found.0 now.0 now.1 now.4,
          (others found.1.0 (λ q is. through r.0 now.0.0 e.0.now low now.2), λ b is. through r.0 now.0.0 b.0 low (now.3 b is)),
        )
      where
        same : {x y : Conflict} → Some x ≡ Some y → x ≡ y
        same h = cc

        came : IsFrom rule (lesser best (e.0.now, p)) es r → (q : Conflict) → lesser best (e.0.now, p) ≡ Some q → (q ≡ (e.0.now, p)) ⊎ (best ≡ Some q) → IsFrom rule best (e ∷ es) r
        came (inl (f, a, d)) q is from = inl (f, inr a, d)
        came (inr d) q is (inl here) =
            let r_is : r ≡ (e.0.now, p) = same (sym d ∙ is) ∙ here in
            inl (e.1, inl (ap (λ (x : Conflict). (x.0, e.1)) r_is), c ∙ ap (λ (x : Conflict). Some x.1) (sym r_is))
        came (inr d) q is (inr before) = inr (before ∙ sym is ∙ d)

pub is_least : (rule : LinkRule) (best : Option Conflict) (es : Entries) (r : Conflict) → least_from rule best (pairs es) ≡ Some r → IsFrom rule best es r × IsLowest rule best es r
is_least rule best [] r h = (inr h, (λ n p c. absurd (none_unknown rule p c), λ b is. subst (λ (x : Conflict). AtMost r.0 x.0) (inside (sym h ∙ is)) (itself r.0)))
  where
    inside : {b : Conflict} → Some r ≡ Some b → r ≡ b
    inside e = cc
is_least rule best (e ∷ es) r h = least_step rule best e es r h (λ other g. is_least rule other es r g)

no_found : (r : Conflict) → None ≡ Some r → ⊥
no_found r h = cc

none_step : (rule : LinkRule) (best : Option Conflict) (e : Bor (List ℕ) × Facts) (es : Entries) → least_from rule best (pairs (e ∷ es)) ≡ None
    → ((other : Option Conflict) → least_from rule other (pairs es) ≡ None → (other ≡ None) × ((n : List ℕ) (p : ℕ × ℕ) → conflict rule (known es n) ≡ Some p → ⊥))
    → (best ≡ None) × ((n : List ℕ) (p : ℕ × ℕ) → conflict rule (known (e ∷ es) n) ≡ Some p → ⊥)
none_step rule best e es h ih = by (conflict rule e.1) refl
  where
    rest : (o : Option (ℕ × ℕ)) → conflict rule e.1 ≡ o → (lesser_of best e.0.now o ≡ None) × ((n : List ℕ) (p : ℕ × ℕ) → conflict rule (known es n) ≡ Some p → ⊥)
    rest o c = ih (lesser_of best e.0.now o) (ap (λ (z : Option (ℕ × ℕ)). least_from rule (lesser_of best e.0.now z) (pairs es)) (sym c) ∙ h)

    never : {p : ℕ × ℕ} → None ≡ Some p → ⊥
    never h = cc

    by : (o : Option (ℕ × ℕ)) → conflict rule e.1 ≡ o → (best ≡ None) × ((n : List ℕ) (p : ℕ × ℕ) → conflict rule (known (e ∷ es) n) ≡ Some p → ⊥)
    by None c =
        let found : (best ≡ None) × ((n : List ℕ) (p : ℕ × ℕ) → conflict rule (known es n) ≡ Some p → ⊥) = rest None c in
        (found.0, λ n p is. which n p is (bytes_eq n e.0.now) refl found.1)
      where
        which : (n : List ℕ) (p : ℕ × ℕ) → conflict rule (known (e ∷ es) n) ≡ Some p → (b : Bool) → bytes_eq n e.0.now ≡ b
            → ((n : List ℕ) (p : ℕ × ℕ) → conflict rule (known es n) ≡ Some p → ⊥) → ⊥
        which n p is true at low = never (sym c ∙ ap (conflict rule) (sym (known_first e es n at)) ∙ is)
        which n p is false at low = low n p (ap (conflict rule) (sym (known_later e es n at)) ∙ is)
    by (Some p) c =
        let now = lesser_is best (e.0.now, p) in
        let gone : lesser best (e.0.now, p) ≡ None = (rest (Some p) c).0 in
        absurd (no_found now.0 (sym gone ∙ now.1))

-- where none is found, no name breaks the rule
pub is_none : (rule : LinkRule) (best : Option Conflict) (es : Entries) → least_from rule best (pairs es) ≡ None → (best ≡ None) × ((n : List ℕ) (p : ℕ × ℕ) → conflict rule (known es n) ≡ Some p → ⊥)
is_none rule best [] h = (h, λ n p c. none_unknown rule p c)
is_none rule best (e ∷ es) h = none_step rule best e es h (λ other g. is_none rule other es g)

-- ---- the table, entry by entry

some_same : {X : Type 0} {x y : X} → Some x ≡ Some y → x ≡ y
some_same h = cc

no_entry : {X : Type 0} {x : X} → None ≡ Some x → ⊥
no_entry h = cc

pub nothing_there : (o : Option (Bor (List ℕ) × Facts)) (e : Bor (List ℕ) × Facts) → None ≡ o → o ≡ Some e → ⊥
nothing_there o e h g = no_entry (h ∙ g)

pub one_found : (rule : LinkRule) (b r : Option Conflict) (x e : Bor (List ℕ) × Facts) (p : Option (ℕ × ℕ)) (o : Option (Bor (List ℕ) × Facts))
    → r ≡ lesser_of b x.0.now p → p ≡ conflict rule x.1 → Some x ≡ o → o ≡ Some e → r ≡ lesser_of b e.0.now (conflict rule e.1)
one_found rule b r x e p o r_is p_is here there =
    r_is ∙ ap (lesser_of b x.0.now) p_is ∙ ap (λ (y : Bor (List ℕ) × Facts). lesser_of b y.0.now (conflict rule y.1)) (some_same (here ∙ there))

entry_at : (es : Entries) (i : ℕ) → i < length es → (e : Bor (List ℕ) × Facts) × (slice_get es i ≡ Some e) × (drop i es ≡ e ∷ drop (suc i) es)
entry_at [] i lt = absurd (omega arith)
entry_at (e ∷ es) zero lt = (e, refl, refl)
entry_at (e ∷ es) (suc i) lt = entry_at es i (omega arith)

pub least_more : (rule : LinkRule) (es : Entries) (i : ℕ) (b r all : Option Conflict) → i < length es → least_from rule b (pairs (drop i es)) ≡ all
    → ((e : Bor (List ℕ) × Facts) → slice_get es i ≡ Some e → r ≡ lesser_of b e.0.now (conflict rule e.1))
    → least_from rule r (pairs (drop (i + 1) es)) ≡ all
least_more rule es i b r all lt so_far next =
    let at = entry_at es i lt in
    ap (λ (n : ℕ). least_from rule r (pairs (drop n es))) (add-one i)
    ∙ ap (λ (z : Option Conflict). least_from rule z (pairs (drop (suc i) es))) (next at.0 at.1)
    ∙ sym (ap (λ (z : Entries). least_from rule b (pairs z)) at.2) ∙ so_far

-- ---- looking a name up

abbrev pub prevails_of : Option Facts → Option ℕ
prevails_of None = None
prevails_of (Some f) = prevails f

pub looked_up : (es : Entries) (n : List ℕ) → module_of (settled es) n ≡ prevails_of (lookup (λ key. bytes_eq n key.now) es)
looked_up [] n = refl
looked_up (e ∷ es) n = by (bytes_eq n e.0.now) (looked_up es n)
  where
    by : (b : Bool) → module_of (settled es) n ≡ prevails_of (lookup (λ key. bytes_eq n key.now) es)
        → cond b (prevails e.1) (module_of (settled es) n) ≡ prevails_of (cond b (Some e.1) (lookup (λ key. bytes_eq n key.now) es))
    by true ih = refl
    by false ih = ih
