-- Each kind of step keeps the rule of the lock.
use Rattle.std.proofs.Common.{◌≡◌, ◌≢◌, ℕ, zero, suc, ◌+◌, ◌%◌, ◌^◌, ◌<◌, ◌≤◌, Bool, true, false, true≢false, List, [], ◌∷◌, ◌++◌, length, set, nat_lt, sym, refl, ap, ◌∙◌, subst, ⊎_elim, arith, eq-eqb, ne_eqb, length-set, length-append, get_or-set_other, get_or-set_same, Option, Some}
use Rattle.std.specs.Prelude.{sum_by, slice_index}
use Rattle.std.proofs.lemmas.Bool.{cases_lt, cases_eq, lt-ltb, le-ltb}
use mathlib.Core.Option.{none, some, some-injective, some-ne-none}
use mathlib.Core.Option as maybe
use mathlib.Core.List.{IsPrefix}
use lib.ListN.{get_elem?}
use lib.Seq.{set-get_or}
use Rattle.atomic_table.specs.Table.{State, Me, step, keeps, takes, gives, stepped, homes_after, Allows, Splits, Joins, opening}
use Rattle.atomic_table.proofs.Lists.{at_set, at_snoc, set_again, set_here, set_else, at_longer}
use Rattle.cache_slot.specs.declared.sight.Sight.{Sight}
use Rattle.cache_slot.specs.declared.sight.Stage.{Stage}
use Rattle.cache_slot.specs.declared.sight.Stage.TheVariants.{Out, Waiting, Inside, Counted}
use Rattle.cache_slot.specs.Views.{share, ticket_count, is_outside, ticket_of, longer, Knows, tickets_held, turns_left, opening_sight, no_sight, staged, drawn, entered, counted, left_sight, right_sight, both_sights, merged}
use Rattle.cache_slot.specs.Rule.{PlaceRule, Home, TurnRule, held_log, DrawStep, AwaitStep, CountStep, ServeStep, MeetStep}
use Rattle.claim_word.proofs.Tallies.{sum_set, sum_at, sum_two, sum_push}
use Rattle.cache_slot.proofs.Prefixes.{prefix_self, prefix_trans, prefix_shorter}

module _ {T R : Type 0} (log : T → List R) where
  abbrev D : Type 0
  D = Sight R

  abbrev M : Type 0
  M = Me (Option T) D

  abbrev St : Type 0
  St = State (Option T) D

  abbrev Rule : St → Type 0
  Rule = TurnRule log

  each_set : (P : D → Type 0) (views : List D) (id : ℕ) (w : D) → P w → ((j : ℕ) (u : D) → j ≢ id → get_elem? views j ≡ some u → P u) → (j : ℕ) (u : D) → get_elem? (set views id w) j ≡ some u → P u
  each_set P views id w mine others j u e = ⊎_elim
      (λ (t : (j ≡ id) × (w ≡ u)). subst P t.1 mine)
      (λ (t : (j ≢ id) × (get_elem? views j ≡ some u)). others j u t.0 t.1)
      (at_set views id j w u e)

  -- what held of each view, where one has changed back from w to v
  each_back : (P : D → Type 0) (views : List D) (id : ℕ) (v w : D) → get_elem? views id ≡ some v → P v → ((j : ℕ) (u : D) → get_elem? (set views id w) j ≡ some u → P u) → (j : ℕ) (u : D) → get_elem? views j ≡ some u → P u
  each_back P views id v w at mine others j u e = ⊎_elim
      (λ (s : j ≡ id). subst P (some-injective v u (sym at ∙ (ap (get_elem? views) (sym s) ∙ e))) mine)
      (λ (ne : j ≡ id → ⊥). others j u (set_else views id j w ne ∙ e))
      (cases_eq j id)

  count_here : (x : ℕ) (t : ℕ) → x ≡ t → ticket_count {R = R} x (Waiting t) ≡ 1
  count_here x t e = rw (eq-eqb t x (sym e)) refl

  count_else : (x : ℕ) (t : ℕ) → x ≢ t → ticket_count {R = R} x (Waiting t) ≡ 0
  count_else x t n = rw (ne_eqb t x (λ e. n (sym e))) refl

  -- a seat that holds the slot has the ticket that is served
  inside_has : (served : ℕ) (history seen : List R) (stage : Stage R) → Knows served history seen stage → is_outside stage ≡ false → ticket_count served stage ≡ 1
  inside_has served history seen Out k e = absurd (true≢false e)
  inside_has served history seen (Waiting t) k e = absurd (true≢false e)
  inside_has served history seen (Inside t l) k e = rw (eq-eqb t served k.0) refl
  inside_has served history seen (Counted t) k e = rw (eq-eqb t served k.0) refl

  -- where one seat has the ticket that is served, no other seat has it
  alone : (s : St) (r : Rule s) (i j : ℕ) (v u : D) → j ≢ i → get_elem? s.views i ≡ some v → get_elem? s.views j ≡ some u → tickets_held (slice_index s.words 1) v ≡ 1 → tickets_held (slice_index s.words 1) u ≡ 0
  alone s r i j v u ne at there one =
      let served : ℕ = slice_index s.words 1 in
      let two = sum_two (tickets_held served) s.views i j v u ne at there in
      ⊎_elim (λ (lt : served < slice_index s.words 0). let z = r.out served (omega arith) lt in omega arith)
      (λ (ge : slice_index s.words 0 ≤ served). let z = r.unused served ge in omega arith)
      (cases_lt served (slice_index s.words 0))

  ticket_is_out : (s : St) (r : Rule s) (i : ℕ) (v : D) → get_elem? s.views i ≡ some v → (x : ℕ) → tickets_held x v ≡ 1 → x < slice_index s.words 0
  ticket_is_out s r i v at x one = let le = sum_at (tickets_held x) s.views i v at in
      ⊎_elim (λ (lt : x < slice_index s.words 0). lt) (λ (ge : slice_index s.words 0 ≤ x). absurd (let z = r.unused x ge in omega arith)) (cases_lt x (slice_index s.words 0))

  -- a ticket is drawn
  draws_one : (s : St) (r : Rule s) (id : ℕ) (me : M) → get_elem? s.views id ≡ some me.0 → me.0.stage ≡ Out → 0 < me.0.turns
      → Rule (stepped s 0 (slice_index s.words 0 + 1) id me.1 (drawn me.0 (slice_index s.words 0)) keeps)
  draws_one s r id me at outside some_turns =
      let x : ℕ = slice_index s.words 0 in let v = me.0 in let w = drawn v x in
      let mine = r.each_place id v at in
      let new : slice_index (set s.words 0 (x + 1)) 0 ≡ x + 1 = get_or-set_same s.words 0 (x + 1) 0 (let a = r.wide in omega arith) in
      let one : slice_index (set s.words 0 (x + 1)) 1 ≡ slice_index s.words 1 = get_or-set_other s.words 0 1 (x + 1) 0 (λ e. omega arith) in
      let two : slice_index (set s.words 0 (x + 1)) 2 ≡ slice_index s.words 2 = get_or-set_other s.words 0 2 (x + 1) 0 (λ e. omega arith) in
      let nothing_held : (y : ℕ) → tickets_held y v ≡ 0 = λ y. ap (ticket_count y) outside in
      record {
        history = r.history;
        wide = length-set s.words 0 (x + 1) ∙ r.wide;
        count = two ∙ r.count;
        order = rw (new, one) (let a = r.order in omega arith);
        turns = let e = sum_set turns_left s.views id v w at in let h = r.turns in rw new (omega arith);
        out = λ y. rw (new, one) (λ from to. let e = sum_set (tickets_held y) s.views id v w at in let z = nothing_held y in ⊎_elim
            (λ (is : y ≡ x). let here = count_here y x is in let u = r.unused y (omega arith) in omega arith)
            (λ (ne : y ≡ x → ⊥). let else = count_else y x ne in let below : y < x = omega arith in let u = r.out y from below in omega arith)
            (cases_eq y x));
        served = λ y. rw one (λ below. let e = sum_set (tickets_held y) s.views id v w at in let z = nothing_held y in let u = r.served y below in let a = r.order in let else = count_else y x (λ is. omega arith) in omega arith);
        unused = λ y. rw new (λ above. let e = sum_set (tickets_held y) s.views id v w at in let z = nothing_held y in let u = r.unused y (omega arith) in let else = count_else y x (λ is. omega arith) in omega arith);
        each_place = each_set (PlaceRule log (slice_index (set s.words 0 (x + 1)) 1) r.history) s.views id w
            (record { seen = mine.seen; also = mine.also; stage = tt })
            (λ j u ne e. subst (λ (z : ℕ). PlaceRule log z r.history u) (sym one) (r.each_place j u e));
        home = λ all. r.home (each_back (λ u. is_outside u.stage ≡ true) s.views id v w at (ap is_outside outside) all);
      }

  pub draws : (slots id : ℕ) (me : M) → me.0.stage ≡ Out → 0 < me.0.turns → Allows Rule slots id me 0 (λ x. (x + 1) % 2 ^ 64) (DrawStep log (step slots 0 1 0 none) me)
  draws slots id me outside some_turns s r deep at wide =
      let x : ℕ = slice_index s.words 0 in
      let some_left = sum_at turns_left s.views id me.0 at in
      let bound = r.turns in
      let sum : (x + 1) % 2 ^ 64 ≡ x + 1 = omega arith in (
        drawn me.0 x,
        keeps,
        tt,
        subst (λ (z : ℕ). Rule (stepped s 0 z id me.1 (drawn me.0 x) keeps)) (sym sum) (draws_one s r id me at outside some_turns),
        (refl, refl),
      )

  -- the seat whose ticket is served takes the value
  takes_it : (s : St) (r : Rule s) (id : ℕ) (me : M) (t : ℕ) → get_elem? s.views id ≡ some me.0 → me.0.stage ≡ Waiting t → t ≡ slice_index s.words 1 → (h : Home log s.homes r.history)
      → Rule record { words = s.words; homes = homes_after s.homes me.1 (takes 0 (Some h.0)); views = set s.views id (entered me.0 t (log h.0)) }
  takes_it s r id me t at waiting is h =
      let v = me.0 in let w = entered v t (log h.0) in
      let mine = r.each_place id v at in
      let same : (y : ℕ) → tickets_held y w ≡ tickets_held y v = λ y. sym (ap (ticket_count y) waiting) in
      let sums : (y : ℕ) → sum_by (tickets_held y) (set s.views id w) ≡ sum_by (tickets_held y) s.views = λ y. (let e = sum_set (tickets_held y) s.views id v w at in let z = same y in omega arith) in
      record {
        history = r.history;
        wide = r.wide;
        count = r.count;
        order = r.order;
        turns = let e = sum_set turns_left s.views id v w at in let b = r.turns in omega arith;
        out = λ y. rw (sums y) (r.out y);
        served = λ y. rw (sums y) (r.served y);
        unused = λ y. rw (sums y) (r.unused y);
        each_place = each_set (PlaceRule log (slice_index s.words 1) r.history) s.views id w
            (record { seen = mine.seen; also = mine.also; stage = (is, h.2) })
            (λ j u ne e. r.each_place j u e);
        home = λ all. absurd (true≢false (sym (all id w (set_at s.views id v w at))));
      }
    where
      set_at : (l : List D) (i : ℕ) (a b : D) → get_elem? l i ≡ some a → get_elem? (set l i b) i ≡ some b
      set_at [] i a b e = absurd (some-ne-none a (sym e))
      set_at (x ∷ xs) zero a b e = refl
      set_at (x ∷ xs) (suc i) a b e = set_at xs i a b e

  -- no other seat holds the slot where the seat whose ticket is served still waits
  all_outside : (s : St) (r : Rule s) (id : ℕ) (v : D) (t : ℕ) → get_elem? s.views id ≡ some v → v.stage ≡ Waiting t → t ≡ slice_index s.words 1 → (j : ℕ) (u : D) → get_elem? s.views j ≡ some u → is_outside u.stage ≡ true
  all_outside s r id v t at waiting is j u there = ⊎_elim
      (λ (e : j ≡ id). let same : v ≡ u = some-injective v u (sym at ∙ (ap (get_elem? s.views) (sym e) ∙ there)) in ap (λ (d : D). is_outside d.stage) (sym same) ∙ ap is_outside waiting)
      (λ (ne : j ≡ id → ⊥). by_stage (is_outside u.stage) refl ne)
      (cases_eq j id)
    where
      by_stage : (b : Bool) → is_outside u.stage ≡ b → j ≢ id → b ≡ true
      by_stage true e ne = refl
      by_stage false e ne =
          let served : ℕ = slice_index s.words 1 in
          let one : tickets_held served v ≡ 1 = ap (ticket_count served) waiting ∙ count_here served t (sym is) in
          let zero_held = alone s r id j v u ne at there one in
          let one_held = inside_has served r.history u.seen u.stage (r.each_place j u there).stage e in
          absurd (omega arith)

  pub waits : (slots id : ℕ) (me : M) (t : ℕ) → me.0.stage ≡ Waiting t → Allows Rule slots id me 1 (λ x. x) (AwaitStep log (step slots 1 0 0 none) me)
  waits slots id me t waiting s r deep at wide =
      let served : ℕ = slice_index s.words 1 in
      let mine = r.each_place id me.0 at in
      let same : set s.words 1 served ≡ s.words = set-get_or s.words 1 0 in
      let ticket : ticket_of me.0.stage ≡ t = ap ticket_of waiting in
      ⊎_elim
      (λ (is : served ≡ t).
      let h = r.home (all_outside s r id me.0 t at waiting (sym is)) in (
        entered me.0 t (log h.0),
        takes 0 (Some h.0),
        h.1,
        subst (λ (ws : List ℕ). Rule record { words = ws; homes = homes_after s.homes me.1 (takes 0 (Some h.0)); views = set s.views id (entered me.0 t (log h.0)) }) (sym same)
            (takes_it s r id me t at waiting (sym is) h),
        (
          (λ _. (h.0, ap (λ (k : ℕ). entered me.0 k (log h.0)) (sym is), refl, subst (IsPrefix me.0.seen) (sym h.2) mine.seen)),
          (λ ne. absurd (ne (is ∙ sym ticket))),
        ),
      ))
      (λ (ne : served ≡ t → ⊥). (
        me.0,
        keeps,
        tt,
        subst (λ (x : List ℕ × List D). Rule record { words = x.0; homes = s.homes; views = x.1 }) (λ i. (sym same i, sym (set_again s.views id me.0 at) i)) r,
        ((λ is. absurd (ne (is ∙ ticket))), λ _. refl),
      ))
      (cases_eq served t)

  -- the held list becomes the history
  counts_one : (s : St) (r : Rule s) (id : ℕ) (me : M) (t k : ℕ) (l extra held : List R) → get_elem? s.views id ≡ some me.0 → me.0.stage ≡ Inside t l → held ≡ l ++ extra → length extra ≡ k
      → Rule (stepped s 2 (slice_index s.words 2 + k) id me.1 (counted me.0 held) keeps)
  counts_one s r id me t k l extra held at inside longer_is count =
      let v = me.0 in let w = counted v held in let n : ℕ = slice_index s.words 2 + k in let served : ℕ = slice_index s.words 1 in
      let mine = r.each_place id v at in
      let knows : Knows served r.history v.seen (Inside t l) = subst (Knows served r.history v.seen) inside mine.stage in
      let from : IsPrefix r.history held = (extra, ap (λ (xs : List R). xs ++ extra) (sym knows.1) ∙ sym longer_is) in
      let zero_same : slice_index (set s.words 2 n) 0 ≡ slice_index s.words 0 = get_or-set_other s.words 2 0 n 0 (λ e. omega arith) in
      let one_same : slice_index (set s.words 2 n) 1 ≡ served = get_or-set_other s.words 2 1 n 0 (λ e. omega arith) in
      let new : slice_index (set s.words 2 n) 2 ≡ n = get_or-set_same s.words 2 n 0 (let a = r.wide in omega arith) in
      let ticket : ticket_of v.stage ≡ t = ap ticket_of inside in
      let same : (y : ℕ) → tickets_held y w ≡ tickets_held y v = λ y. ap (λ (z : ℕ). ticket_count {R = R} y (Counted z)) ticket ∙ sym (ap (ticket_count y) inside) in
      let sums : (y : ℕ) → sum_by (tickets_held y) (set s.views id w) ≡ sum_by (tickets_held y) s.views = λ y. (let e = sum_set (tickets_held y) s.views id v w at in let z = same y in omega arith) in
      let holder : tickets_held served v ≡ 1 = ap (ticket_count served) inside ∙ inside_has served r.history v.seen (Inside t l) knows refl in
      record {
        history = held;
        wide = length-set s.words 2 n ∙ r.wide;
        count = new ∙ (let a = r.count in let b = ap length longer_is in let c = length-append l extra in let d = ap length knows.1 in omega arith);
        order = rw (zero_same, one_same) r.order;
        turns = let e = sum_set turns_left s.views id v w at in let b = r.turns in rw zero_same (omega arith);
        out = λ y. rw (zero_same, one_same, sums y) (r.out y);
        served = λ y. rw (one_same, sums y) (r.served y);
        unused = λ y. rw (zero_same, sums y) (r.unused y);
        each_place = each_set (PlaceRule log (slice_index (set s.words 2 n) 1) held) s.views id w
            (record { seen = prefix_self held; also = prefix_trans v.also r.history held mine.also from; stage = (ticket ∙ (knows.0 ∙ sym one_same), refl) })
            (λ j u ne there. let f = r.each_place j u there in
            record { seen = prefix_trans u.seen r.history held f.seen from; also = prefix_trans u.also r.history held f.also from; stage = others (slice_index (set s.words 2 n) 1) u.seen u.stage (alone s r id j v u ne at there holder) f.stage });
        home = λ all. absurd (true≢false (sym (all id w (set_at s.views id v w at))));
      }
    where
      set_at : (l : List D) (i : ℕ) (a b : D) → get_elem? l i ≡ some a → get_elem? (set l i b) i ≡ some b
      set_at [] i a b e = absurd (some-ne-none a (sym e))
      set_at (x ∷ xs) zero a b e = refl
      set_at (x ∷ xs) (suc i) a b e = set_at xs i a b e

      -- a seat without the ticket that is served holds nothing, and knows nothing of the list
      others : (one : ℕ) (seen : List R) (stage : Stage R) → ticket_count (slice_index s.words 1) stage ≡ 0 → Knows (slice_index s.words 1) r.history seen stage → Knows one held seen stage
      others one seen Out nothing k = tt
      others one seen (Waiting t') nothing k = tt
      others one seen (Inside t' l') nothing k = absurd (let h = inside_has (slice_index s.words 1) r.history seen (Inside t' l') k refl in omega arith)
      others one seen (Counted t') nothing k = absurd (let h = inside_has (slice_index s.words 1) r.history seen (Counted t') k refl in omega arith)

  pub counts : (slots id k : ℕ) (me : M) (t : ℕ) (l extra : List R) (x : T) → me.0.stage ≡ Inside t l → me.1 ≡ (0, Some x) ∷ [] → log x ≡ l ++ extra → length extra ≡ k → length (log x) < 2 ^ 64
      → Allows Rule slots id me 2 (λ n. (n + k) % 2 ^ 64) (CountStep log (step slots 2 k 0 none) me)
  counts slots id k me t l extra x inside held longer_is count small s r deep at wide =
      let n : ℕ = slice_index s.words 2 in
      let is : held_log log me.1 ≡ log x = ap (held_log log) held in
      let knows : Knows (slice_index s.words 1) r.history me.0.seen (Inside t l) = subst (Knows (slice_index s.words 1) r.history me.0.seen) inside (r.each_place id me.0 at).stage in
      let total : n + k ≡ length (log x) = (let a = r.count in let b = ap length longer_is in let c = length-append l extra in let d = ap length knows.1 in omega arith) in
      let sum : (n + k) % 2 ^ 64 ≡ n + k = omega arith in (
        counted me.0 (held_log log me.1),
        keeps,
        tt,
        subst (λ (z : ℕ). Rule (stepped s 2 z id me.1 (counted me.0 (held_log log me.1)) keeps)) (sym sum) (counts_one s r id me t k l extra (held_log log me.1) at inside (is ∙ longer_is) count),
        (refl, refl),
      )

  -- the value goes home, and the next ticket is served
  serves_next : (s : St) (r : Rule s) (id : ℕ) (me : M) (t : ℕ) (x : T) → length s.homes ≡ 1 → get_elem? s.views id ≡ some me.0 → me.0.stage ≡ Counted t → me.1 ≡ (0, Some x) ∷ [] → log x ≡ me.0.seen
      → Rule record { words = set s.words 1 (slice_index s.words 1 + 1); homes = set s.homes 0 (some (Some x)); views = set s.views id (staged me.0 Out) }
  serves_next s r id me t x deep at stage held same_log =
      let v = me.0 in let w = staged v Out in let served : ℕ = slice_index s.words 1 in let n : ℕ = served + 1 in
      let mine = r.each_place id v at in
      let knows : Knows served r.history v.seen (Counted t) = subst (Knows served r.history v.seen) stage mine.stage in
      let zero_same : slice_index (set s.words 1 n) 0 ≡ slice_index s.words 0 = get_or-set_other s.words 1 0 n 0 (λ e. omega arith) in
      let two_same : slice_index (set s.words 1 n) 2 ≡ slice_index s.words 2 = get_or-set_other s.words 1 2 n 0 (λ e. omega arith) in
      let new : slice_index (set s.words 1 n) 1 ≡ n = get_or-set_same s.words 1 n 0 (let a = r.wide in omega arith) in
      let holder : tickets_held served v ≡ 1 = ap (ticket_count served) stage ∙ inside_has served r.history v.seen (Counted t) knows refl in
      let below = ticket_is_out s r id v at served holder in
      let not_mine : (y : ℕ) → y ≢ served → tickets_held y v ≡ 0 = λ y ne. ap (ticket_count y) stage ∙ count_else y t (λ e. ne (e ∙ knows.0)) in
      record {
        history = r.history;
        wide = length-set s.words 1 n ∙ r.wide;
        count = two_same ∙ r.count;
        order = rw (zero_same, new) (omega arith);
        turns = let e = sum_set turns_left s.views id v w at in let b = r.turns in rw zero_same (omega arith);
        out = λ y. rw (zero_same, new) (λ from to. let e = sum_set (tickets_held y) s.views id v w at in let z = not_mine y (λ is. omega arith) in let u = r.out y (omega arith) to in omega arith);
        served = λ y. rw new (λ under. let e = sum_set (tickets_held y) s.views id v w at in ⊎_elim
            (λ (is : y ≡ served). let u = r.out y (omega arith) (omega arith) in let h : tickets_held y v ≡ 1 = ap (λ (z : ℕ). tickets_held z v) is ∙ holder in omega arith)
            (λ (ne : y ≡ served → ⊥). let u = r.served y (omega arith) in let z = not_mine y ne in omega arith)
            (cases_eq y served));
        unused = λ y. rw zero_same (λ above. let e = sum_set (tickets_held y) s.views id v w at in let z = not_mine y (λ is. omega arith) in let u = r.unused y above in omega arith);
        each_place = each_set (PlaceRule log (slice_index (set s.words 1 n) 1) r.history) s.views id w
            (record { seen = mine.seen; also = mine.also; stage = tt })
            (λ j u ne there. let f = r.each_place j u there in record { seen = f.seen; also = f.also; stage = others (slice_index (set s.words 1 n) 1) u.seen u.stage (alone s r id j v u ne at there holder) f.stage });
        home = λ all. (x, set_here s.homes 0 (some (Some x)) (omega arith), same_log ∙ knows.1);
      }
    where
      others : (one : ℕ) (seen : List R) (stage : Stage R) → ticket_count (slice_index s.words 1) stage ≡ 0 → Knows (slice_index s.words 1) r.history seen stage → Knows one r.history seen stage
      others one seen Out nothing k = tt
      others one seen (Waiting t') nothing k = tt
      others one seen (Inside t' l') nothing k = absurd (let h = inside_has (slice_index s.words 1) r.history seen (Inside t' l') k refl in omega arith)
      others one seen (Counted t') nothing k = absurd (let h = inside_has (slice_index s.words 1) r.history seen (Counted t') k refl in omega arith)

  pub serves : (slots id : ℕ) (me : M) (t : ℕ) (x : T) → slots ≡ 1 → me.0.stage ≡ Counted t → me.1 ≡ (0, Some x) ∷ [] → log x ≡ me.0.seen
      → Allows Rule slots id me 1 (λ n. (n + 1) % 2 ^ 64) (ServeStep log (step slots 1 1 0 none) me)
  serves slots id me t x one_slot stage held same_log s r deep at wide =
      let n : ℕ = slice_index s.words 1 in
      let a = r.order in let b = r.turns in
      let sum : (n + 1) % 2 ^ 64 ≡ n + 1 = omega arith in
      let back : homes_after s.homes me.1 gives ≡ set s.homes 0 (some (Some x)) = ap (λ (c : List (ℕ × Option T)). homes_after s.homes c gives) held in (
        staged me.0 Out,
        gives,
        tt,
        subst (λ (z : ℕ × List (maybe.Option (Option T))). Rule record { words = set s.words 1 z.0; homes = z.1; views = set s.views id (staged me.0 Out) }) (λ i. (sym sum i, sym back i))
            (serves_next s r id me t x (deep ∙ one_slot) at stage held same_log),
        (refl, refl),
      )

  share_le : (n : ℕ) → share n ≤ n
  share_le n = ⊎_elim
      (λ (lt : n < 2199023255552). let e : nat_lt n 2199023255552 ≡ true = lt-ltb n 2199023255552 lt in rw e (omega arith))
      (λ (ge : 2199023255552 ≤ n). let e : nat_lt n 2199023255552 ≡ false = le-ltb n 2199023255552 ge in rw e (omega arith))
      (cases_lt n 2199023255552)

  each_push : (P : D → Type 0) (views : List D) (w : D) → P w → ((j : ℕ) (u : D) → get_elem? views j ≡ some u → P u) → (j : ℕ) (u : D) → get_elem? (views ++ w ∷ []) j ≡ some u → P u
  each_push P views w mine others j u e = ⊎_elim
      (λ (there : get_elem? views j ≡ some u). others j u there)
      (λ (is : w ≡ u). subst P is mine)
      (at_snoc views w u j e)

  pub splits : (id : ℕ) (v : D) → Splits Rule id v (left_sight v) (right_sight v)
  splits id v s r at =
      let left = left_sight v in let right = right_sight v in
      let views' : List D = set s.views id left ++ right ∷ [] in
      let mine = r.each_place id v at in
      let sums : (y : ℕ) → sum_by (tickets_held y) views' ≡ sum_by (tickets_held y) s.views = λ y. (let e = sum_set (tickets_held y) s.views id v left at in let p = sum_push (tickets_held y) (set s.views id left) right in omega arith) in
      record {
        history = r.history;
        wide = r.wide;
        count = r.count;
        order = r.order;
        turns = let e = sum_set turns_left s.views id v left at in let p = sum_push turns_left (set s.views id left) right in let b = r.turns in let c = share_le v.turns in omega arith;
        out = λ y. rw (sums y) (r.out y);
        served = λ y. rw (sums y) (r.served y);
        unused = λ y. rw (sums y) (r.unused y);
        each_place = each_push (PlaceRule log (slice_index s.words 1) r.history) (set s.views id left) right
            (record { seen = mine.seen; also = (r.history, refl); stage = tt })
            (each_set (PlaceRule log (slice_index s.words 1) r.history) s.views id left
            (record { seen = mine.seen; also = mine.also; stage = mine.stage })
            (λ j u ne e. r.each_place j u e));
        home = λ all. r.home (each_back (λ u. is_outside u.stage ≡ true) s.views id v left at (all id left (at_longer (set s.views id left) (right ∷ []) id left (set_at s.views id v left at)))
            (λ j u e. all j u (at_longer (set s.views id left) (right ∷ []) j u e)));
      }
    where
      set_at : (l : List D) (i : ℕ) (a b : D) → get_elem? l i ≡ some a → get_elem? (set l i b) i ≡ some b
      set_at [] i a b e = absurd (some-ne-none a (sym e))
      set_at (x ∷ xs) zero a b e = refl
      set_at (x ∷ xs) (suc i) a b e = set_at xs i a b e

  pub joins : (id : ℕ) (v : D) (other : ℕ) (w : D) → w.stage ≡ Out → Joins Rule id v other w (both_sights v w) no_sight
  joins id v other w outside s r at apart there =
      let u = both_sights v w in
      let mine = r.each_place id v at in
      let there' : get_elem? s.views other ≡ some w = ⊎_elim (λ (t : (other ≡ id) × (u ≡ w)). absurd (apart t.0)) (λ (t : (other ≢ id) × (get_elem? s.views other ≡ some w)). t.1) (at_set s.views id other u w there) in
      let theirs = r.each_place other w there' in
      let views' : List D = set (set s.views id u) other no_sight in
      let sum_joined : (f : D → ℕ) → sum_by f views' + f v + f w ≡ sum_by f s.views + f u + f no_sight = λ f. (let a = sum_set f s.views id v u at in let b = sum_set f (set s.views id u) other w no_sight there in omega arith) in
      let sums : (y : ℕ) → sum_by (tickets_held y) views' ≡ sum_by (tickets_held y) s.views = λ y. (let e = sum_joined (tickets_held y) in let z : tickets_held y w ≡ 0 = ap (ticket_count y) outside in omega arith) in
      record {
        history = r.history;
        wide = r.wide;
        count = r.count;
        order = r.order;
        turns = let e = sum_joined turns_left in let b = r.turns in omega arith;
        out = λ y. rw (sums y) (r.out y);
        served = λ y. rw (sums y) (r.served y);
        unused = λ y. rw (sums y) (r.unused y);
        each_place = each_set (PlaceRule log (slice_index s.words 1) r.history) (set s.views id u) other no_sight
            (record { seen = (r.history, refl); also = (r.history, refl); stage = tt })
            (λ j a ne e. each_set (PlaceRule log (slice_index s.words 1) r.history) s.views id u
            (record { seen = mine.seen; also = theirs.seen; stage = mine.stage })
            (λ i b ne' e'. r.each_place i b e') j a e);
        home = λ all. r.home (each_back (λ a. is_outside a.stage ≡ true) s.views id v u at
            (all id u (set_else (set s.views id u) other id no_sight (λ e. apart (sym e)) ∙ set_at s.views id v u at))
            (each_back (λ a. is_outside a.stage ≡ true) (set s.views id u) other w no_sight there (ap is_outside outside) all));
      }
    where
      set_at : (l : List D) (i : ℕ) (a b : D) → get_elem? l i ≡ some a → get_elem? (set l i b) i ≡ some b
      set_at [] i a b e = absurd (some-ne-none a (sym e))
      set_at (x ∷ xs) zero a b e = refl
      set_at (x ∷ xs) (suc i) a b e = set_at xs i a b e

  prefix_longer : (xs ys zs : List R) → IsPrefix xs zs → IsPrefix ys zs → IsPrefix xs (longer xs ys) × IsPrefix ys (longer xs ys) × IsPrefix (longer xs ys) zs
  prefix_longer xs ys zs p q = ⊎_elim
      (λ (lt : length xs < length ys). let e : nat_lt (length xs) (length ys) ≡ true = lt-ltb (length xs) (length ys) lt in rw e (prefix_shorter xs ys zs p q (omega arith), prefix_self ys, q))
      (λ (ge : length ys ≤ length xs). let e : nat_lt (length xs) (length ys) ≡ false = le-ltb (length xs) (length ys) ge in rw e (prefix_self xs, prefix_shorter ys xs zs q p ge, p))
      (cases_lt (length xs) (length ys))

  pub meets : (slots id : ℕ) (me : M) → me.0.stage ≡ Out → Allows Rule slots id me 0 (λ x. x) (MeetStep log (step slots 0 0 0 none) me)
  meets slots id me outside s r deep at wide =
      let v = me.0 in let w = merged v in
      let mine = r.each_place id v at in
      let lists = prefix_longer v.seen v.also r.history mine.seen mine.also in
      let same : set s.words 0 (slice_index s.words 0) ≡ s.words = set-get_or s.words 0 0 in
      let sums : (y : ℕ) → sum_by (tickets_held y) (set s.views id w) ≡ sum_by (tickets_held y) s.views = λ y. (let e = sum_set (tickets_held y) s.views id v w at in omega arith) in (
        w,
        keeps,
        tt,
        subst (λ (ws : List ℕ). Rule record { words = ws; homes = s.homes; views = set s.views id w }) (sym same)
            record {
              history = r.history;
              wide = r.wide;
              count = r.count;
              order = r.order;
              turns = let e = sum_set turns_left s.views id v w at in let b = r.turns in omega arith;
              out = λ y. rw (sums y) (r.out y);
              served = λ y. rw (sums y) (r.served y);
              unused = λ y. rw (sums y) (r.unused y);
              each_place = each_set (PlaceRule log (slice_index s.words 1) r.history) s.views id w
                  (record { seen = lists.2; also = (r.history, refl); stage = subst (Knows (slice_index s.words 1) r.history (longer v.seen v.also)) (sym outside) tt })
                  (λ j u ne e. r.each_place j u e);
              home = λ all. r.home (each_back (λ u. is_outside u.stage ≡ true) s.views id v w at (ap is_outside outside) all);
            },
        (refl, refl, lists.0, lists.1, (let some_left = sum_at turns_left s.views id v at in let b = r.turns in omega arith)),
      )

  pub begins : (x : T) → log x ≡ [] → Rule (opening (0 ∷ 0 ∷ 0 ∷ []) (Some x ∷ []) (opening_sight))
  begins x empty = record {
    history = [];
    wide = refl;
    count = refl;
    order = omega arith;
    turns = omega arith;
    out = λ y from to. absurd (omega arith);
    served = λ y below. absurd (omega arith);
    unused = λ y from. refl;
    each_place = single;
    home = λ all. (x, refl, empty);
  }
    where
      single : (j : ℕ) (v : D) → get_elem? (opening_sight ∷ []) j ≡ some v → PlaceRule log 0 [] v
      single zero v e = subst (PlaceRule log 0 []) (some-injective _ _ e) record { seen = ([], refl); also = ([], refl); stage = tt }
      single (suc j) v e = absurd (some-ne-none v (sym e))
