-- A search in breadth finds a walk back exactly where there is one.
use Rattle.std.proofs.Common.{◌≡◌, refl, sym, ap, subst, ◌∙◌, ℕ, zero, suc, ◌+◌, ◌-◌, ◌<◌, ◌≤◌, Bool, true, false, ◌||◌, nat_eq, List, [], ◌∷◌, ◌++◌, length, set, replicate, if◌then◌else◌, inl, inr, arith}
use Rattle.std.proofs.lemmas.Bool.{cases_eq, cases_lt, eq-eqb, ne_eqb}
use Rattle.std.proofs.lemmas.List.{get_or-set_same, get_or-set_other, length-set, get_or_append_left, get_or_push, length_push, get_or_past, length-replicate}
use Rattle.std.specs.List.{list_any}
use Rattle.ir_parse_names.specs.Walks.{Graph, next, leads}
use Rattle.ir_parse_stages.specs.Searching.{Among, is_seen, unseen, at, IsSearch, IsPassing}

true≢false : true ≡ false → ⊥
true≢false h = absurd (cc h)

or_true : (a b : Bool) → b ≡ true → (a || b) ≡ true
or_true true b h = refl
or_true false b h = h

or_more : (a b c : Bool) → (b ≡ true → c ≡ true) → (a || b) ≡ true → (a || c) ≡ true
or_more true b c f h = refl
or_more false b c f h = f h

from_among : (f : ℕ → Bool) (ps : List ℕ) (p : ℕ) → Among p ps → f p ≡ true → list_any f ps ≡ true
from_among f [] p h e = absurd h
from_among f (q ∷ qs) p (inl s) e = ap (λ b. b || list_any f qs) (ap f (sym s) ∙ e)
from_among f (q ∷ qs) p (inr h) e = or_true (f q) (list_any f qs) (from_among f qs p h e)

pub none_among : (f : ℕ → Bool) (ps : List ℕ) → ((p : ℕ) → Among p ps → f p ≡ false) → list_any f ps ≡ false
none_among f [] h = refl
none_among f (q ∷ qs) h = ap (λ b. b || list_any f qs) (h q (inl refl)) ∙ none_among f qs (λ p a. h p (inr a))

more_any : (f g : ℕ → Bool) → ((p : ℕ) → f p ≡ true → g p ≡ true) → (ps : List ℕ) → list_any f ps ≡ true → list_any g ps ≡ true
more_any f g h [] e = e
more_any f g h (q ∷ qs) e = by (f q) refl (more_any f g h qs)
  where
    by : (b : Bool) → f q ≡ b → (list_any f qs ≡ true → list_any g qs ≡ true) → (g q || list_any g qs) ≡ true
    by true s rest = ap (λ b. b || list_any g qs) (h q s)
    by false s rest = or_true (g q) (list_any g qs) (rest (sym (ap (λ b. b || list_any f qs) s) ∙ e))

leads_more : (n : ℕ) (graph : Graph) (t p : ℕ) → leads n graph t p ≡ true → leads (suc n) graph t p ≡ true
leads_more zero graph t p e = absurd (true≢false (sym e))
leads_more (suc n) graph t p e =
    more_any (λ q. nat_eq q t || leads n graph t q) (λ q. nat_eq q t || leads (suc n) graph t q) (λ q. or_more (nat_eq q t) (leads n graph t q) (leads (suc n) graph t q) (leads_more n graph t q)) (next graph p) e

leads_up : (k n : ℕ) (graph : Graph) (t p : ℕ) → leads n graph t p ≡ true → leads (k + n) graph t p ≡ true
leads_up zero n graph t p e = let same : n ≡ 0 + n = omega arith in subst (λ m. leads m graph t p ≡ true) same e
leads_up (suc k) n graph t p e =
    let same : suc (k + n) ≡ suc k + n = omega arith in subst (λ m. leads m graph t p ≡ true) same (leads_more (k + n) graph t p (leads_up k n graph t p e))

-- a longer walk may be taken
pub leads_most : (n m : ℕ) (graph : Graph) (t p : ℕ) → n ≤ m → leads n graph t p ≡ true → leads m graph t p ≡ true
leads_most n m graph t p le e =
    let same : m - n + n ≡ m = omega (arith, le) in subst (λ k. leads k graph t p ≡ true) same (leads_up (m - n) n graph t p e)

-- an edge, and then a walk
leads_on : (m : ℕ) (graph : Graph) (t p q : ℕ) → Among q (next graph p) → leads m graph t q ≡ true → leads (m + 1) graph t p ≡ true
leads_on m graph t p q a e =
    let one : suc m ≡ m + 1 = omega arith in
    subst (λ k. leads k graph t p ≡ true) one (from_among (λ r. nat_eq r t || leads m graph t r) (next graph p) q a (or_true (nat_eq q t) (leads m graph t q) e))

leads_last : (graph : Graph) (t p : ℕ) → Among t (next graph p) → leads 1 graph t p ≡ true
leads_last graph t p a = from_among (λ r. nat_eq r t || leads 0 graph t r) (next graph p) t a (ap (λ b. b || false) (eq-eqb t t refl))

-- places that no edge leaves, and that no edge to the start leaves, lead to no walk back
never : (graph : Graph) (t : ℕ) (seen : List Bool)
    → ((p : ℕ) → p < length graph → is_seen seen p ≡ true → (q : ℕ) → Among q (next graph p) → (is_seen seen q ≡ true) × (q ≡ t → ⊥))
    → (m p : ℕ) → is_seen seen p ≡ true → leads m graph t p ≡ false
never graph t seen closed zero p h = refl
never graph t seen closed (suc m) p h =
    elim (cases_lt p (length graph)) [
      | inl lt ↦
          none_among (λ r. nat_eq r t || leads m graph t r) (next graph p) (λ q a. let c = closed p lt h q a in ap (λ b. b || leads m graph t q) (ne_eqb q t c.1) ∙ never graph t seen closed m q c.0)
      | inr ge ↦ none_among (λ r. nat_eq r t || leads m graph t r) (next graph p) (λ q a. absurd (subst (λ row. Among q row) (get_or_past graph p [] ge) a))
    ]

-- ---- rows

pub other_place : (p t : ℕ) → nat_eq p t ≡ false → p ≡ t → ⊥
other_place p t h e = true≢false (sym (eq-eqb p t e) ∙ h)

pub among_at : (ps : List ℕ) (k : ℕ) → k < length ps → Among (at ps k) ps
among_at [] k lt = absurd (omega (arith, lt))
among_at (p ∷ ps) zero lt = inl refl
among_at (p ∷ ps) (suc k) lt = inr (among_at ps k (omega (arith, lt)))

pub among_is : (ps : List ℕ) (k p : ℕ) → k < length ps → p ≡ at ps k → Among p ps
among_is ps k p lt is = subst (λ q. Among q ps) (sym is) (among_at ps k lt)

pub among_place : (ps : List ℕ) (p : ℕ) → Among p ps → (k : ℕ) × (k < length ps) × (at ps k ≡ p)
among_place [] p a = absurd a
among_place (q ∷ qs) p (inl e) = (0, omega arith, sym e)
among_place (q ∷ qs) p (inr a) = let there = among_place qs p a in (suc there.0, omega (arith, there.1), there.2)

-- ---- the search

seen_within : (seen : List Bool) (p : ℕ) → is_seen seen p ≡ false → p < length seen
seen_within seen p h = elim (cases_lt p (length seen)) [ inl lt ↦ lt | inr ge ↦ absurd (true≢false (sym (get_or_past seen p true ge) ∙ h)) ]

unseen-set : (s : List Bool) (p : ℕ) → is_seen s p ≡ false → unseen (set s p true) + 1 ≡ unseen s
unseen-set [] p f = absurd (true≢false f)
unseen-set (true ∷ s) zero f = absurd (true≢false f)
unseen-set (false ∷ s) zero f = omega arith
unseen-set (true ∷ s) (suc p) f = unseen-set s p f
unseen-set (false ∷ s) (suc p) f = let r : unseen (set s p true) + 1 ≡ unseen s = unseen-set s p f in omega (arith, r)

all_unseen : (n : ℕ) → unseen (replicate n false) ≡ n
all_unseen zero = refl
all_unseen (suc n) = ap suc (all_unseen n)

fresh : (n p : ℕ) → p < n → is_seen (replicate n false) p ≡ false
fresh zero p lt = absurd (omega (arith, lt))
fresh (suc n) zero lt = refl
fresh (suc n) (suc p) lt = fresh n p (omega (arith, lt))

pub search_start : (graph : Graph) (t : ℕ) → t < length graph → IsSearch graph t (t ∷ []) (set (replicate (length graph) false) t true) 0
search_start graph t lt =
    let n : ℕ = length graph in
    let clear : List Bool = replicate n false in
    record {
      long = length-set clear t true ∙ length-replicate n false;
      counted = let r = unseen-set clear t (fresh n t lt) in omega (arith, r, all_unseen n);
      begun = get_or-set_same clear t true true (omega (arith, lt, length-replicate n false));
      held = λ p within h.
          elim (cases_eq p t) [
            | inl e ↦ (0, omega arith, sym e)
            | inr ne ↦ absurd (true≢false (sym (sym (get_or-set_other clear t p true true ne) ∙ h) ∙ fresh n p within))
          ];
      ways = λ i m few e. let first : 0 ≡ i = omega (arith, few) in let same : m ≡ m + 0 = omega arith in subst (λ k. leads (m + k) graph t t ≡ true) first (subst (λ k. leads k graph t t ≡ true) same (subst (λ k. leads m graph t (at (t ∷ []) k) ≡ true) (sym first) e));
      closed = λ i p few a. absurd (omega (arith, few));
    }

-- a place that isn't seen is found behind the others
module _ (graph : Graph) (t : ℕ) (found : List ℕ) (seen : List Bool) (head p : ℕ) where
  visited : IsSearch graph t found seen head → head < length found → Among p (next graph (at found head)) → is_seen seen p ≡ false → IsSearch graph t (found ++ p ∷ []) (set seen p true) head
  visited s within edge free =
      let inside : p < length seen = seen_within seen p free in
      let old : (i : ℕ) → i < length found → at (found ++ p ∷ []) i ≡ at found i = λ i lt. get_or_append_left found (p ∷ []) 0 i lt in
      let wider : (q : ℕ) → is_seen seen q ≡ true → is_seen (set seen p true) q ≡ true = λ q h.
      elim (cases_eq q p) [
        | inl e ↦ subst (λ r. is_seen (set seen p true) r ≡ true) (sym e) (get_or-set_same seen p true true inside)
        | inr ne ↦ get_or-set_other seen p q true true ne ∙ h
      ] in
      record {
        long = length-set seen p true ∙ s.long;
        counted = let r = unseen-set seen p free in omega (arith, length_push found p, r, s.counted);
        begun = wider t s.begun;
        held = λ q lt h.
            elim (cases_eq q p) [
              | inl e ↦ (length found, omega (arith, length_push found p), get_or_push found p 0 (length found) refl ∙ sym e)
              | inr ne ↦
                  let there = s.held q lt (sym (get_or-set_other seen p q true true ne) ∙ h) in (there.0, omega (arith, length_push found p, there.1), old there.0 there.1 ∙ there.2)
            ];
        ways = λ i m lt e.
            elim (cases_lt i (length found)) [
              | inl few ↦ s.ways i m few (subst (λ q. leads m graph t q ≡ true) (old i few) e)
              | inr last ↦
                  let same : length found ≡ i = omega (arith, length_push found p, lt, last) in
                  let here : leads m graph t p ≡ true = subst (λ q. leads m graph t q ≡ true) (get_or_push found p 0 i same) e in
                  leads_most (m + 1 + head) (m + i) graph t t (omega (arith, within, same)) (s.ways head (m + 1) within (leads_on m graph t (at found head) p edge here))
            ];
        closed = λ i q lt a.
            let c = s.closed i q lt (subst (λ r. Among q (next graph r)) (old i (omega (arith, lt, within))) a) in (wider q c.0, c.1);
      }

  -- what stands behind a visit
  pub visit : (row : List ℕ) (k : ℕ) (found2 : List ℕ) (seen2 : List Bool) → IsPassing graph t found seen head row k → k < length row → p ≡ at row k → (p ≡ t → ⊥)
      → found2 ≡ (if is_seen seen p then found else found ++ p ∷ []) → seen2 ≡ (if is_seen seen p then seen else set seen p true) → IsPassing graph t found2 seen2 head row (k + 1)
  visit row k found2 seen2 s lt is other f g = by (is_seen seen p) refl
    where
      edge : Among p (next graph (at found head))
      edge = subst (λ r. Among p r) s.is_row (subst (λ q. Among q row) (sym is) (among_at row k lt))

      passed_on : (seen3 : List Bool) → ((q : ℕ) → is_seen seen q ≡ true → is_seen seen3 q ≡ true) → is_seen seen3 p ≡ true → (j : ℕ) → j < k + 1 → (is_seen seen3 (at row j) ≡ true) × (at row j ≡ t → ⊥)
      passed_on seen3 wide here j few =
          elim (cases_lt j k) [
            | inl old ↦ let c = s.passed j old in (wide (at row j) c.0, c.1)
            | inr new ↦ let same : k ≡ j = omega (arith, few, new) in subst (λ i. (is_seen seen3 (at row i) ≡ true) × (at row i ≡ t → ⊥)) same (subst (λ q. (is_seen seen3 q ≡ true) × (q ≡ t → ⊥)) is (here, other))
          ]

      by : (b : Bool) → is_seen seen p ≡ b → IsPassing graph t found2 seen2 head row (k + 1)
      by true e =
          let sf : found2 ≡ found = f ∙ ap (λ b. if b then found else found ++ p ∷ []) e in
          let sg : seen2 ≡ seen = g ∙ ap (λ b. if b then seen else set seen p true) e in
          rw (sf, sg) (record { searching = s.searching; within = s.within; is_row = s.is_row; passed = passed_on seen (λ q h. h) e })
      by false e =
          let sf : found2 ≡ found ++ p ∷ [] = f ∙ ap (λ b. if b then found else found ++ p ∷ []) e in
          let sg : seen2 ≡ set seen p true = g ∙ ap (λ b. if b then seen else set seen p true) e in
          let here : is_seen (set seen p true) p ≡ true = get_or-set_same seen p true true (seen_within seen p e) in
          let wide : (q : ℕ) → is_seen seen q ≡ true → is_seen (set seen p true) q ≡ true = λ q h.
          elim (cases_eq q p) [
            | inl same ↦ subst (λ r. is_seen (set seen p true) r ≡ true) (sym same) here
            | inr ne ↦ get_or-set_other seen p q true true ne ∙ h
          ] in
          rw (sf, sg) (record {
            searching = visited s.searching s.within edge e;
            within = omega (arith, length_push found p, s.within);
            is_row = s.is_row ∙ ap (next graph) (sym (get_or_append_left found (p ∷ []) 0 head s.within));
            passed = passed_on (set seen p true) wide here;
          })

-- all edges of the next one are gone over
pub passed_all : (graph : Graph) (t : ℕ) (found : List ℕ) (seen : List Bool) (head : ℕ) (row : List ℕ) → IsPassing graph t found seen head row (length row) → IsSearch graph t found seen (head + 1)
passed_all graph t found seen head row s =
    record {
      long = s.searching.long;
      counted = s.searching.counted;
      begun = s.searching.begun;
      held = s.searching.held;
      ways = s.searching.ways;
      closed = λ i p few a.
          elim (cases_lt i head) [
            | inl old ↦ s.searching.closed i p old a
            | inr last ↦
                let same : i ≡ head = omega (arith, few, last) in
                let here : Among p row = subst (λ r. Among p r) (ap (λ k. next graph (at found k)) same ∙ sym s.is_row) a in
                let place = among_place row p here in
                subst (λ q. (is_seen seen q ≡ true) × (q ≡ t → ⊥)) place.2 (s.passed place.0 place.1)
          ];
    }

pub pass_start : (graph : Graph) (t : ℕ) (found : List ℕ) (seen : List Bool) (head : ℕ) → IsSearch graph t found seen head → head < length found → (row : List ℕ) → row ≡ next graph (at found head) → IsPassing graph t found seen head row 0
pass_start graph t found seen head s within row is = record { searching = s; within = within; is_row = is; passed = λ k few. absurd (omega (arith, few)) }

-- a walk back is found
pub leads_back : (graph : Graph) (t : ℕ) (found : List ℕ) (seen : List Bool) (head : ℕ) → IsSearch graph t found seen head → head < length found → Among t (next graph (at found head)) → leads (length graph) graph t t ≡ true
leads_back graph t found seen head s within a =
    leads_most (1 + head) (length graph) graph t t (omega (arith, s.counted, within)) (s.ways head 1 within (leads_last graph t (at found head) a))

-- there is none
pub leads_nowhere : (graph : Graph) (t : ℕ) (found : List ℕ) (seen : List Bool) (head : ℕ) → IsSearch graph t found seen head → length found ≤ head → leads (length graph) graph t t ≡ false
leads_nowhere graph t found seen head s all =
    never graph t seen
    (λ p lt h q a.
    let there = s.held p lt h in s.closed there.0 q (omega (arith, there.1, all)) (subst (λ r. Among q (next graph r)) (sym there.2) a))
    (length graph) t s.begun
