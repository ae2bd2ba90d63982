-- The levels of a walk along chains.
use Rattle.std.proofs.Common.{◌≡◌, ◌∙◌, ◌⊎◌, inl, inr, ◌*◌, ◌/◌, ℕ, zero, suc, ◌+◌, ◌<◌, ◌≤◌, Bool, true, false, cond, nat_eq, List, [], ◌++◌, Option, Some, None, refl, sym, subst, arith}
use Rattle.std.proofs.lemmas.Bool.{and_from, and_parts, cases_lt, cond-true, false≢true, le-leb, leb-true}
use Rattle.std.proofs.lemmas.List.Elements.{Contains-append_cases, Contains-append_left, Contains-append_right}
use Rattle.std.proofs.lemmas.List.Sums.{sum_by-append}
use Rattle.std.specs.List.{Contains}
use Rattle.lto_sets.specs.Sets.{contains}
use Rattle.combined_index.specs.Combined.{Combined, prevailing_of}
use Rattle.combined_index.specs.declared.definition.Definition.{Definition}
use Rattle.thin_link.specs.Chains.{Chain, IsCalled, MayStand, begins, callees, counts_within, goes_on, is_eligible, is_importable, is_own, is_small, threshold}
use Rattle.thin_link.specs.Walking.{AreFound, AreOwn, Grown, IsLevel, called, called_by, copies, is_kept, live_calls, room}
use Rattle.thin_link.proofs.Lists.{in_joined, joined_from, nothing}

-- ---- thresholds fall

seven_tenths : (n : ℕ) → n * 7 / 10 ≤ n
seven_tenths n = omega arith

falls : (limit j k : ℕ) → j ≤ k → threshold limit k ≤ threshold limit j
falls limit j zero h = let same : j ≡ 0 = omega arith in subst (λ (i : ℕ). threshold limit 0 ≤ threshold limit i) (sym same) (omega arith)
falls limit j (suc k) h = elim (cases_lt k j) [
  | inl l ↦ (let same : j ≡ suc k = omega arith in subst (λ (i : ℕ). threshold limit (suc k) ≤ threshold limit i) (sym same) (omega arith))
  | inr l ↦ (let rest : threshold limit k ≤ threshold limit j = falls limit j k l in omega (arith, seven_tenths (threshold limit k), rest))
]

counts_more : (m n : ℕ) → m ≤ n → (count : Option ℕ) → counts_within m count ≡ true → counts_within n count ≡ true
counts_more m n le None h = absurd (false≢true h)
counts_more m n le (Some x) h = let low : x ≤ m = leb-true x m h in le-leb x n (omega arith)

small_more : (m n : ℕ) → m ≤ n → (o : Option Definition) → is_small m o ≡ true → is_small n o ≡ true
small_more m n le None h = absurd (false≢true h)
small_more m n le (Some d) h =
    let parts = and_parts (is_eligible d) (counts_within m d.count) h in
    and_from (is_eligible d) (counts_within n d.count) parts.0 (counts_more m n le d.count parts.1)

-- ---- what the live definitions call

module _ (live : List Bool) (own : List Definition) where
  live_calls_in : (d : Definition) (g : ℕ) → Contains (live_calls live d) g → (d.prevails ≡ true) × (contains live d.symbol ≡ true) × Contains d.calls g
  live_calls_in d g h = by (is_kept live d) refl h
    where
      by : (b : Bool) → is_kept live d ≡ b → Contains (cond b d.calls []) g → (d.prevails ≡ true) × (contains live d.symbol ≡ true) × Contains d.calls g
      by true e k = let parts = and_parts d.prevails (contains live d.symbol) e in (parts.0, parts.1, k)
      by false e k = absurd (nothing g k)

  in_live_calls : (d : Definition) (g : ℕ) → d.prevails ≡ true → contains live d.symbol ≡ true → Contains d.calls g → Contains (live_calls live d) g
  in_live_calls d g e f k = subst (λ (ns : List ℕ). Contains ns g) (sym (cond-true (is_kept live d) d.calls [] (and_from d.prevails (contains live d.symbol) e f))) k

  called_is : (g : ℕ) → Contains (called live own) g → IsCalled live own g
  called_is g h =
      let d = joined_from (live_calls live) own g h in
      let l = live_calls_in d.0 g d.2 in
      record { caller = d.0; there = d.1; prevails = l.0; alive = l.1; calls = l.2 }

  is_called : (g : ℕ) → IsCalled live own g → Contains (called live own) g
  is_called g c = in_joined (live_calls live) own c.caller g c.there (in_live_calls c.caller g c.prevails c.alive c.calls)

-- ---- levels

module _ (c : Combined) (live : List Bool) (limit : ℕ) (own : List Definition) where
  stands_sooner : (j k g : ℕ) → j ≤ k → MayStand c limit own k g → MayStand c limit own j g
  stands_sooner j k g le s = record {
    importable = small_more (threshold limit k) (threshold limit j) (falls limit j k le) (prevailing_of c g) s.importable;
    outside = s.outside;
  }

  chain_outside : (k g : ℕ) → Chain c live limit own k g → is_own own g ≡ false
  chain_outside zero g (begins _ called stand) = stand.outside
  chain_outside (suc k) g (goes_on _ f _ before calls stand) = stand.outside

  -- what is seen and isn't the module's own has been found, or is of the level
  apart : (n : ℕ) → is_own own n ≡ false → is_own own n ≡ true → ⊥
  apart n foreign mine = false≢true (sym foreign ∙ mine)

  pub level-start : (s t : List Bool) (level : List ℕ) → AreOwn own s → Grown (is_importable c limit) s [] (called live own) t level → IsLevel c live limit own 0 t [] level
  level-start s t level mine g = record {
    own_seen = λ n h. g.stays n (mine n ∙ h);
    parts = λ n h. elim (g.from n h) [ inl k ↦ inl (sym (mine n) ∙ k) | inr k ↦ inr (inr k) ];
    sound = λ n h. absurd (nothing n h);
    front = front;
    complete = complete;
    once = λ n.
        let same : copies n level + room t n ≡ 0 + room s n = g.once n in
        omega (arith, same, room_most s n);
  }
    where
      room_most : (s : List Bool) (n : ℕ) → room s n ≤ 1
      room_most s n = by (contains s n)
        where
          by : (b : Bool) → cond b 0 1 ≤ 1
          by true = omega arith
          by false = omega arith

      front : (n : ℕ) → Contains level n → Chain c live limit own 0 n
      front n h = elim (g.held n h) [
        | inl k ↦ absurd (nothing n k)
        | inr k ↦ begins n (called_is live own n k.1) (record { importable = k.2; outside = sym (mine n) ∙ k.0 })
      ]

      complete : (j n : ℕ) → j ≤ 0 → Chain c live limit own j n → contains t n ≡ true
      complete zero n h (begins _ call stand) = g.there n (is_called live own n call) stand.importable
      complete (suc j) n h chain = absurd (omega arith)

  pub level-step : (k : ℕ) (s t : List Bool) (found level next : List ℕ) → IsLevel c live limit own k s found level
      → Grown (is_importable c (threshold limit (suc k))) s [] (called_by c level) t next → IsLevel c live limit own (suc k) t (found ++ level) next
  level-step k s t found level next l g = record {
    own_seen = λ n h. g.stays n (l.own_seen n h);
    parts = λ n h. elim (g.from n h) [ inl o ↦ old n (l.parts n o) | inr o ↦ inr (inr o) ];
    sound = sound;
    front = front;
    complete = complete;
    once = λ n.
        let whole : copies n (found ++ level) ≡ copies n found + copies n level = sum_by-append (λ y. cond (nat_eq n y) 1 0) found level in
        let same : copies n next + room t n ≡ 0 + room s n = g.once n in
        omega (arith, whole, same, l.once n);
  }
    where
      old : (n : ℕ) → (is_own own n ≡ true) ⊎ Contains found n ⊎ Contains level n → (is_own own n ≡ true) ⊎ Contains (found ++ level) n ⊎ Contains next n
      old n (inl o) = inl o
      old n (inr (inl o)) = inr (inl (Contains-append_left found level n o))
      old n (inr (inr o)) = inr (inl (Contains-append_right found level n o))

      sound : (n : ℕ) → Contains (found ++ level) n → (j : ℕ) × (j < suc k) × Chain c live limit own j n
      sound n h = elim (Contains-append_cases found level n h) [
        | inl o ↦ (let r = l.sound n o in let lt : r.0 < k = r.1 in (r.0, omega (arith, lt), r.2))
        | inr o ↦ (k, omega arith, l.front n o)
      ]

      front : (n : ℕ) → Contains next n → Chain c live limit own (suc k) n
      front n h = elim (g.held n h) [
        | inl o ↦ absurd (nothing n o)
        | inr o ↦ (let f = joined_from (callees c) level n o.1 in goes_on k f.0 n (l.front f.0 f.1) f.2 (record { importable = o.2; outside = foreign n o.0 }))
      ]
        where
          foreign : (n : ℕ) → contains s n ≡ false → is_own own n ≡ false
          foreign n h = by (is_own own n) refl
            where
              by : (b : Bool) → is_own own n ≡ b → is_own own n ≡ false
              by true e = absurd (false≢true (sym h ∙ l.own_seen n e))
              by false e = e

      -- a chain of the next length goes on from the level, or leads to what was found sooner
      last : (f n : ℕ) → Chain c live limit own k f → Contains (callees c f) n → MayStand c limit own (suc k) n → contains t n ≡ true
      last f n before calls stand = by (l.parts f (l.complete k f (omega arith) before))
        where
          by : (is_own own f ≡ true) ⊎ Contains found f ⊎ Contains level f → contains t n ≡ true
          by (inl o) = absurd (apart f (chain_outside k f before) o)
          by (inr (inl o)) =
              let r = l.sound f o in
              let lt : r.0 < k = r.1 in
              let le : suc r.0 ≤ suc k = omega (arith, lt) in
              g.stays n (l.complete (suc r.0) n (omega (arith, lt)) (goes_on r.0 f n r.2 calls (stands_sooner (suc r.0) (suc k) n le stand)))
          by (inr (inr o)) = g.there n (in_joined (callees c) level f n o calls) stand.importable

      complete : (j n : ℕ) → j ≤ suc k → Chain c live limit own j n → contains t n ≡ true
      complete zero n h chain = g.stays n (l.complete zero n (omega arith) chain)
      complete (suc i) n h (goes_on _ f _ before calls stand) = elim (cases_lt i k) [
        | inl lt ↦ g.stays n (l.complete (suc i) n (omega (arith, lt)) (goes_on i f n before calls stand))
        | inr ge ↦ (
            let same : i ≡ k = omega (arith, h, ge) in
            last f n (subst (λ (z : ℕ). Chain c live limit own z f) same before) calls (subst (λ (z : ℕ). MayStand c limit own (suc z) n) same stand))
      ]

  pub level-done : (k : ℕ) (s : List Bool) (found level : List ℕ) → level ≡ [] → IsLevel c live limit own k s found level → AreFound c live limit own found
  level-done k s found level none l = record {
    imported = λ g. (λ h. let r = l.sound g h in (r.0, r.2), λ i. all i.0 g i.1);
    once = λ g. omega (arith, l.once g);
  }
    where
      seen_found : (n : ℕ) → is_own own n ≡ false → contains s n ≡ true → Contains found n
      seen_found n foreign h = by (l.parts n h)
        where
          by : (is_own own n ≡ true) ⊎ Contains found n ⊎ Contains level n → Contains found n
          by (inl o) = absurd (apart n foreign o)
          by (inr (inl o)) = o
          by (inr (inr o)) = absurd (nothing n (subst (λ (ns : List ℕ). Contains ns n) none o))

      all : (j n : ℕ) → Chain c live limit own j n → Contains found n
      all zero n chain = seen_found n (chain_outside zero n chain) (l.complete zero n (omega arith) chain)
      all (suc i) n (goes_on _ f _ before calls stand) = by (cases_lt i k) (all i f before)
        where
          by : (i < k) ⊎ (k ≤ i) → Contains found f → Contains found n
          by (inl lt) there = seen_found n stand.outside (l.complete (suc i) n (omega (arith, lt)) (goes_on i f n before calls stand))
          by (inr ge) there =
              let r = l.sound f there in
              let lt : r.0 < k = r.1 in
              let le : suc r.0 ≤ suc i = omega (arith, lt, ge) in
              seen_found n stand.outside (l.complete (suc r.0) n (omega (arith, lt)) (goes_on r.0 f n r.2 calls (stands_sooner (suc r.0) (suc i) n le stand)))
