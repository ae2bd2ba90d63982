-- What is available in the caller or in the callee is available in what inlining gives.
use Rattle.std.proofs.Common.{◌≡◌, ℕ, suc, ◌+◌, ◌-◌, ◌<◌, ◌≤◌, nat_lt, ◌&&◌, ◌||◌, ◌⊎◌, inl, inr, Bool, true, false, List, [], ◌∷◌, ◌++◌, Option, Some, None, map, option_map, length, take, refl, sym, ◌∙◌, ap, subst, arith, if◌then◌else◌}
use Rattle.std.specs.Prelude.{slice_get}
use Rattle.std.specs.List.{cons_option}
use Rattle.std.proofs.lemmas.Bool.{and_parts, ltb-true, or_cases, or_left, or_right}
use Rattle.std.proofs.lemmas.List.{map-append, take-map, take_all}
use Rattle.ir_tree.specs.Flow.{Available, AvailableAt, AvailableAtEnd, defined_before, definitions, holds, line_count, locals, parameters, phi_locals, results, successors}
use Rattle.std.proofs.lemmas.Option.{slice_get_within}
use Rattle.ir_tree.specs.Rules.{place}
use Rattle.ir_tree.specs.declared.block.Block.{Block}
use Rattle.ir_tree.specs.declared.function.Function.{Function}
use Rattle.ir_tree.specs.declared.instr.Line.{Line}
use Rattle.ir_tree.specs.declared.instr.Phi.{Phi}
use Rattle.ir_tree.specs.declared.operand.Operand.{Operand}
use Rattle.ir_tree.specs.Edited.{line_edited, phi_edited}
use Rattle.ir_meaning.specs.Counted.{times}
use Rattle.ir_meaning.proofs.Counting.{among_times}
use Rattle.inline_site.specs.Copies.{first_free}
use Rattle.inline_site.specs.Inlined.{entry_of}
use Rattle.inline_site.proofs.Carried.{Carries, available_by, carried_of}
use Rattle.inline_site.proofs.Copied.{copied_apart}
use Rattle.inline_site.proofs.Final.{less, not_less, sides}
use Rattle.inline_site.proofs.Fresh.{behind_past, new_past}
use Rattle.inline_site.proofs.Leading.{block_below, callee_place, copied_targets, entry_is, first_targets, inner_targets, number_there, old_targets, outer_targets, entry_block}
use Rattle.inline_site.proofs.Numbered.{holds_under}
use Rattle.inline_site.proofs.Places.{Finishes, InCopy, Inlining, IsFirst, IsSecond, Starts, Stays, behind_defined, by_end, by_start, copied_with, copy_at, first, first_at, first_definitions, inner, inner_op, made, new, outer, outer_lines, phi_names, result_phi, results_same, second, second_at, start_here, take_past, take_within, was_here}

-- ---- at the end of a block

pub split_end : (h : Function) (p : ℕ) (b : Block) (y : ℕ) → slice_get h.blocks p ≡ Some b → AvailableAtEnd h p y → Available h p y ⊎ (holds (definitions b) y ≡ true)
split_end h p b y at (inl a) = inl a
split_end h p b y at (inr d) =
    inr (ap (λ (l : List Line). holds (phi_locals b ++ results l) y) (sym (take_all (length b.lines) b.lines (omega arith))) ∙ sym (ap (λ (o : Option Block). defined_before o (line_count o) y) at) ∙ d)

pub join_end : (h : Function) (p : ℕ) (b : Block) (y : ℕ) → slice_get h.blocks p ≡ Some b → Available h p y ⊎ (holds (definitions b) y ≡ true) → AvailableAtEnd h p y
join_end h p b y at (inl a) = inl a
join_end h p b y at (inr d) =
    inr (ap (λ (o : Option Block). defined_before o (line_count o) y) at ∙ ap (λ (l : List Line). holds (phi_locals b ++ results l) y) (take_all (length b.lines) b.lines (omega arith)) ∙ d)

-- no block carries it on
carries_none : (h : Function) (y : ℕ) → Carries h y (λ q. false)
carries_none h y = record { entry = λ m. absurd (cc m); other = λ p q b c at_p at_q m. absurd (cc m) }

-- ---- what the copy defines

inner_phis : (number : ℕ → ℕ) (op : Operand → Operand) (ps : List Phi) → map (λ p. p.local) (map (phi_edited number op) ps) ≡ map number (map (λ p. p.local) ps)
inner_phis number op [] = refl
inner_phis number op (p ∷ ps) = ap (λ (l : List ℕ). number p.local ∷ l) (inner_phis number op ps)

inner_results : (number : ℕ → ℕ) (op : Operand → Operand) (ls : List Line) → results (map (line_edited number op) ls) ≡ map number (results ls)
inner_results number op [] = refl
inner_results number op (l ∷ ls) = ap (cons_option (option_map number l.local)) (inner_results number op ls) ∙ by l.local
  where
    by : (o : Option ℕ) → cons_option (option_map number o) (map number (results ls)) ≡ map number (cons_option o (results ls))
    by None = refl
    by (Some x) = refl

inner_before : (z : Inlining) (d : Block) (k y : ℕ) → defined_before (Some (inner z d)) k (new z y) ≡ defined_before (Some d) k y
inner_before z d k y =
    ap (λ (l : List ℕ). holds l (new z y))
    ((λ i. inner_phis (new z) (inner_op z) d.phis i ++ (ap results (take-map (line_edited (new z) (inner_op z)) k d.lines) ∙ inner_results (new z) (inner_op z) (take k d.lines)) i)
    ∙ sym (map-append (new z) (phi_locals d) (results (take k d.lines))))
    ∙ holds_under (new z) (copied_apart (first_free z.f) z.callee) (phi_locals d ++ results (take k d.lines)) y

inner_defines : (z : Inlining) (d : Block) (y : ℕ) → holds (definitions (inner z d)) (new z y) ≡ holds (definitions d) y
inner_defines z d y =
    ap (λ (l : List ℕ). holds l (new z y))
    ((λ i. inner_phis (new z) (inner_op z) d.phis i ++ inner_results (new z) (inner_op z) d.lines i) ∙ sym (map-append (new z) (phi_locals d) (results d.lines)))
    ∙ holds_under (new z) (copied_apart (first_free z.f) z.callee) (definitions d) y

module _ (z : Inlining) (y : ℕ) where
  -- what the block of the call has defined before the call
  abbrev before : Bool
  before = holds (phi_locals z.s.block ++ results z.s.before) y

  abbrev n : ℕ
  n = length z.s.front

  abbrev m : ℕ
  m = length z.callee.blocks

  -- ---- the caller's

  module _ (set : ℕ → Bool) (carries : Carries z.f y set) (stays : Stays z.op z.s.call.local (result_phi z) y) where
    moved_set : ℕ → Bool
    moved_set q = if nat_lt n q then (if nat_lt (n + suc m) q then set (q - suc m) else (set n || before)) else set q

    low : (q : ℕ) → q ≤ n → moved_set q ≡ set q
    unfolding moved_set
    low q h = ap (λ (b : Bool). if b then (if nat_lt (n + suc m) q then set (q - suc m) else (set n || before)) else set q) (not_less n q h)

    mid : (q : ℕ) → n < q → q ≤ n + suc m → moved_set q ≡ (set n || before)
    unfolding moved_set
    mid q h k =
        ap (λ (b : Bool). if b then (if nat_lt (n + suc m) q then set (q - suc m) else (set n || before)) else set q) (less n q h)
        ∙ ap (λ (b : Bool). if b then set (q - suc m) else (set n || before)) (not_less (n + suc m) q k)

    high : (q : ℕ) → n + suc m < q → moved_set q ≡ set (q - suc m)
    unfolding moved_set
    high q h =
        ap (λ (b : Bool). if b then (if nat_lt (n + suc m) q then set (q - suc m) else (set n || before)) else set q) (less n q (omega (arith, h)))
        ∙ ap (λ (b : Bool). if b then set (q - suc m) else (set n || before)) (less (n + suc m) q h)

    high_is : (i q : ℕ) → q ≡ i + suc m → n < i → moved_set q ≡ set i
    high_is i q e lt = let same : q - suc m ≡ i = omega (arith, e) in high q (omega (arith, e, lt)) ∙ ap set same

    at_start : (i : ℕ) (b : Block) (q : ℕ) (c : Block) → Starts z i b q c → moved_set q ≡ set i
    at_start i b q c s = by s.moved
      where
        by : ((q ≡ i) × (i ≤ n)) ⊎ ((q ≡ i + suc m) × (n < i)) → moved_set q ≡ set i
        by (inl e) = low q (omega (arith, e.0, e.1)) ∙ ap set e.0
        by (inr e) = high_is i q e.0 e.1

    at_finish : (i : ℕ) (b : Block) (q : ℕ) (c : Block) → Finishes z i b q c → (set i ≡ true) ⊎ (holds (definitions b) y ≡ true) → (moved_set q ≡ true) ⊎ (holds (definitions c) y ≡ true)
    at_finish i b q c s (inl e) = inl (by s.moved)
      where
        later : q ≡ i + suc m → (n < i) ⊎ (i ≤ n) → n ≤ i → moved_set q ≡ true
        later q_is (inl lt) le = high_is i q q_is lt ∙ e
        later q_is (inr ge) le = let same : i ≡ n = omega (arith, ge, le) in mid q (omega (arith, q_is, same)) (omega (arith, q_is, same)) ∙ or_left (set n) before (ap set (sym same) ∙ e)

        by : ((q ≡ i) × (i < n)) ⊎ ((q ≡ i + suc m) × (n ≤ i)) → moved_set q ≡ true
        by (inl k) = low q (omega (arith, k.0, k.1)) ∙ ap set k.0 ∙ e
        by (inr k) = later k.0 (sides n i) k.1
    at_finish i b q c s (inr e) = by (s.defines y stays e) s.moved
      where
        by : (holds (definitions c) y ≡ true) ⊎ ((i ≡ n) × (before ≡ true)) → ((q ≡ i) × (i < n)) ⊎ ((q ≡ i + suc m) × (n ≤ i)) → (moved_set q ≡ true) ⊎ (holds (definitions c) y ≡ true)
        by (inl d) place = inr d
        by (inr k) (inl place) = absurd (let is : i ≡ n = k.0 in let lt : i < n = place.1 in omega (arith, is, lt))
        by (inr k) (inr place) =
            let is : i ≡ n = k.0 in
            let q_is : q ≡ i + suc m = place.0 in
            inl (mid q (omega (arith, is, q_is)) (omega (arith, is, q_is)) ∙ or_right (set n) before k.1)

    -- from the copy's and the second half's predecessors
    in_middle : (q : ℕ) (b : Block) → first_free z.f ≤ b.number → (set n || before) ≡ true → (c : Block) → slice_get (made z).blocks q ≡ Some c → 1 ≤ times b.number (successors c.end)
        → (moved_set q ≡ true) ⊎ (holds (definitions c) y ≡ true)
    in_middle q b past marked c at some = by (by_end z q c at)
      where
        of_first : q ≡ n → c ≡ first z → (set n ≡ true) ⊎ (before ≡ true) → (moved_set q ≡ true) ⊎ (holds (definitions c) y ≡ true)
        of_first e c_is (inl k) = inl (low q (omega (arith, e)) ∙ ap set e ∙ k)
        of_first e c_is (inr k) = inr (ap (λ (x : Block). holds (definitions x) y) c_is ∙ ap (λ (l : List ℕ). holds l y) (first_definitions z) ∙ k)

        by : ((i : ℕ) × (o : Block) × Finishes z i o q c) ⊎ (IsFirst z q c ⊎ InCopy z q c) → (moved_set q ≡ true) ⊎ (holds (definitions c) y ≡ true)
        by (inl (i, o, s)) =
            let none : times b.number (successors c.end) ≡ 0 = (λ k. times b.number (successors (s.end k))) ∙ ap (times b.number) (outer_targets z o.end) ∙ old_targets z i o s.old b.number past in
            absurd (omega (arith, none, some))
        by (inr (inl (e, c_is))) = of_first e c_is (or_cases (set n) before marked)
        by (inr (inr (j, d, q_is, at_j, c_is))) =
            let lt : j < m = slice_get_within z.callee.blocks j d at_j in
            inl (mid q (omega (arith, q_is)) (omega (arith, q_is, lt)) ∙ marked)

    carried : Carries (made z) y moved_set
    carried = record {
      entry = λ k. carries.entry (sym (low 0 (omega arith)) ∙ k);
      other = other;
    }
      where
        other : (p q : ℕ) (b c : Block) → slice_get (made z).blocks p ≡ Some b → slice_get (made z).blocks q ≡ Some c → moved_set p ≡ true → (p ≡ 0 → ⊥) → 1 ≤ times b.number (successors c.end)
            → (moved_set q ≡ true) ⊎ (holds (definitions c) y ≡ true)
        other p q b c at_p at_q marked inner' some = by (by_start z p b at_p)
          where
            from_old : (i : ℕ) (a : Block) → Starts z i a p b → ((r : ℕ) × (o : Block) × Finishes z r o q c) ⊎ (IsFirst z q c ⊎ InCopy z q c) → (moved_set q ≡ true) ⊎ (holds (definitions c) y ≡ true)
            from_old i a s (inl (r, o, t)) =
                let many : times b.number (successors c.end) ≡ times a.number (successors o.end) = (λ k. times (s.number k) (successors (t.end k))) ∙ ap (times a.number) (outer_targets z o.end) in
                at_finish r o q c t (carries.other i r a o s.old t.old (sym (at_start i a p b s) ∙ marked) (λ e. inner' (first_still e s.moved)) (omega (arith, many, some)))
              where
                first_still : i ≡ 0 → ((p ≡ i) × (i ≤ n)) ⊎ ((p ≡ i + suc m) × (n < i)) → p ≡ 0
                first_still e (inl k) = k.0 ∙ e
                first_still e (inr k) = absurd (omega (arith, e, k.1))
            from_old i a s (inr (inl (e, c_is))) =
                let none : times b.number (successors c.end) ≡ 0 = (λ k. times (s.number k) (successors (c_is k).end)) ∙ first_targets z a.number (block_below z.f a.number (number_there z.f i a s.old)) in
                absurd (omega (arith, none, some))
            from_old i a s (inr (inr (j, d, q_is, at_j, c_is))) =
                let none : times b.number (successors c.end) ≡ 0 = (λ k. times (s.number k) (successors (c_is k).end)) ∙ inner_targets z d a.number (block_below z.f a.number (number_there z.f i a s.old)) in
                absurd (omega (arith, none, some))

            by : ((i : ℕ) × (a : Block) × Starts z i a p b) ⊎ (InCopy z p b ⊎ IsSecond z p b) → (moved_set q ≡ true) ⊎ (holds (definitions c) y ≡ true)
            by (inl (i, a, s)) = from_old i a s (by_end z q c at_q)
            by (inr (inl (j, d, p_is, at_j, b_is))) =
                let lt : j < m = slice_get_within z.callee.blocks j d at_j in
                let past : first_free z.f ≤ new z d.number = new_past z d.number in
                in_middle q b (subst (λ (x : Block). first_free z.f ≤ x.number) (sym b_is) past) (sym (mid p (omega (arith, p_is)) (omega (arith, p_is, lt))) ∙ marked) c at_q some
            by (inr (inr (p_is, b_is))) =
                in_middle q b (subst (λ (x : Block). first_free z.f ≤ x.number) (sym b_is) (behind_past z)) (sym (mid p (omega (arith, p_is)) (omega (arith, p_is))) ∙ marked) c at_q some

    -- a member's start, and all places between the halves
    start_of : holds (locals (made z)) y ≡ true → (i : ℕ) (b : Block) (q : ℕ) (c : Block) → Starts z i b q c → set i ≡ true → Available (made z) q y
    start_of there i b q c s k = available_by (made z) y moved_set carried there q c s.now (at_start i b q c s ∙ k)

    middle_of : holds (locals (made z)) y ≡ true → (set n || before) ≡ true → (q : ℕ) (c : Block) → slice_get (made z).blocks q ≡ Some c → n < q → q ≤ n + suc m → Available (made z) q y
    middle_of there k q c at lt le = available_by (made z) y moved_set carried there q c at (mid q lt le ∙ k)

    end_of : holds (locals (made z)) y ≡ true → (i : ℕ) (b : Block) (q : ℕ) (c : Block) → Finishes z i b q c → (set i ≡ true) ⊎ (holds (definitions b) y ≡ true) → AvailableAtEnd (made z) q y
    end_of there i b q c s k = by (at_finish i b q c s k)
      where
        by : (moved_set q ≡ true) ⊎ (holds (definitions c) y ≡ true) → AvailableAtEnd (made z) q y
        by (inl e) = join_end (made z) q c y s.now (inl (available_by (made z) y moved_set carried there q c s.now e))
        by (inr e) = join_end (made z) q c y s.now (inr e)

  module _ (stays : Stays z.op z.s.call.local (result_phi z) y) (there : holds (locals (made z)) y ≡ true) where
    start_there : (i : ℕ) (b : Block) (q : ℕ) (c : Block) → Starts z i b q c → Available z.f i y → Available (made z) q y
    start_there i b q c s a = by (carried_of z.f y i a)
      where
        by : (set : ℕ → Bool) × Carries z.f y set × (set i ≡ true) → Available (made z) q y
        by (set, carries, k) = start_of set carries stays there i b q c s k

    middle_there : Available z.f n y ⊎ (before ≡ true) → (q : ℕ) (c : Block) → slice_get (made z).blocks q ≡ Some c → n < q → q ≤ n + suc m → Available (made z) q y
    middle_there (inl a) q c at lt le = by (carried_of z.f y n a)
      where
        by : (set : ℕ → Bool) × Carries z.f y set × (set n ≡ true) → Available (made z) q y
        by (set, carries, k) = middle_of set carries stays there (or_left (set n) before k) q c at lt le
    middle_there (inr k) q c at lt le = middle_of (λ q. false) (carries_none z.f y) stays there k q c at lt le

    pub end_there : (i : ℕ) (b : Block) (q : ℕ) (c : Block) → Finishes z i b q c → AvailableAtEnd z.f i y → AvailableAtEnd (made z) q y
    end_there i b q c s a = from (split_end z.f i b y s.old a)
      where
        from : Available z.f i y ⊎ (holds (definitions b) y ≡ true) → AvailableAtEnd (made z) q y
        from (inl k) = by (carried_of z.f y i k)
          where
            by : (set : ℕ → Bool) × Carries z.f y set × (set i ≡ true) → AvailableAtEnd (made z) q y
            by (set, carries, e) = end_of set carries stays there i b q c s (inl e)
        from (inr k) = end_of (λ q. false) (carries_none z.f y) stays there i b q c s (inr k)

    -- before a line of a block that is whole
    pub line_there : (i : ℕ) (b : Block) (q : ℕ) → Starts z i b q (outer z b) → (k : ℕ) → AvailableAt z.f i k y → AvailableAt (made z) q k y
    line_there i b q s k (inl a) = inl (start_there i b q (outer z b) s a)
    line_there i b q s k (inr d) =
        inr (ap (λ (o : Option Block). defined_before o k y) s.now
        ∙ (λ j. holds (phi_names z b.phis j ++ (ap results (take-map (line_edited (λ x. x) z.op) k b.lines) ∙ results_same z.op (take k b.lines)) j) y)
        ∙ sym (ap (λ (o : Option Block). defined_before o k y) s.old) ∙ d)

    -- before a line in front of the call, and before the call
    pub first_there : (k : ℕ) → k ≤ length z.s.before → AvailableAt z.f n k y → AvailableAt (made z) n k y
    first_there k le (inl a) = inl (start_there n z.s.block n (first z) (start_here z) a)
    first_there k le (inr d) =
        inr (ap (λ (o : Option Block). defined_before o k y) (first_at z)
        ∙ (λ j. holds (phi_names z z.s.block.phis j ++ (ap results (take-map (line_edited (λ x. x) z.op) k z.s.before) ∙ results_same z.op (take k z.s.before) ∙ ap results (sym (take_within z.s.before (z.s.call ∷ z.s.after) k le)) ∙ ap (λ (ls : List Line). results (take k ls)) (sym z.lines)) j) y)
        ∙ sym (ap (λ (o : Option Block). defined_before o k y) (was_here z)) ∙ d)

    -- in the copy there is what is there before the call
    pub copy_there : AvailableAt z.f n (length z.s.before) y → (j : ℕ) (d : Block) → slice_get z.callee.blocks j ≡ Some d → Available (made z) (n + suc j) y
    copy_there a j d at = middle_there (by a) (n + suc j) (inner z d) (copy_at z j d at) (omega arith) (let lt : j < m = slice_get_within z.callee.blocks j d at in omega (arith, lt))
      where
        all_before : take (length z.s.before) z.s.block.lines ≡ z.s.before
        all_before = ap (take (length z.s.before)) z.lines ∙ take_within z.s.before (z.s.call ∷ z.s.after) (length z.s.before) (omega arith) ∙ take_all (length z.s.before) z.s.before (omega arith)

        by : AvailableAt z.f n (length z.s.before) y → Available z.f n y ⊎ (before ≡ true)
        by (inl k) = inl k
        by (inr k) =
            inr (ap (λ (ls : List Line). holds (phi_locals z.s.block ++ results ls) y) (sym all_before) ∙ sym (ap (λ (o : Option Block). defined_before o (length z.s.before) y) (was_here z)) ∙ k)

    -- before a line behind the call
    pub second_there : (k : ℕ) → AvailableAt z.f n (length z.s.before + suc k) y → AvailableAt (made z) (n + suc m) k y
    second_there k (inl a) = inl (middle_there (inl a) (n + suc m) (second z) (second_at z) (omega arith) (omega arith))
    second_there k (inr d) = by (behind_defined z (take k z.s.after) y stays (ap (λ (ls : List Line). holds (phi_locals z.s.block ++ results ls) y) (sym some) ∙ sym (ap (λ (o : Option Block). defined_before o (length z.s.before + suc k) y) (was_here z)) ∙ d))
      where
        some : take (length z.s.before + suc k) z.s.block.lines ≡ z.s.before ++ z.s.call ∷ take k z.s.after
        some = ap (take (length z.s.before + suc k)) z.lines ∙ take_past z.s.before (z.s.call ∷ z.s.after) (suc k)

        by : (holds (phi_locals (second z) ++ results (outer_lines z (take k z.s.after))) y ≡ true) ⊎ (before ≡ true) → AvailableAt (made z) (n + suc m) k y
        by (inl e) = inr (ap (λ (o : Option Block). defined_before o k y) (second_at z) ∙ ap (λ (ls : List Line). holds (phi_locals (second z) ++ results ls) y) (take-map (line_edited (λ x. x) z.op) k z.s.after) ∙ e)
        by (inr e) = inl (middle_there (inr e) (n + suc m) (second z) (second_at z) (omega arith) (omega arith))

  -- ---- the callee's

  module _ (set : ℕ → Bool) (carries : Carries z.callee y set) (no_parameter : holds (parameters z.callee) y ≡ true → ⊥) where
    inner_set : ℕ → Bool
    inner_set q = nat_lt n q && (nat_lt q (n + suc m) && set (q - suc n))

    inner_in : (q j : ℕ) → q ≡ n + suc j → j < m → inner_set q ≡ set j
    unfolding inner_set
    inner_in q j is lt =
        let same : q - suc n ≡ j = omega (arith, is) in
        (λ k. less n q (omega (arith, is)) k && (less q (n + suc m) (omega (arith, is, lt)) k && set (same k)))

    inner_parts : (q : ℕ) → inner_set q ≡ true → (n < q) × (q < n + suc m)
    unfolding inner_set
    inner_parts q e =
        let one : (nat_lt n q ≡ true) × ((nat_lt q (n + suc m) && set (q - suc n)) ≡ true) = and_parts (nat_lt n q) (nat_lt q (n + suc m) && set (q - suc n)) e in
        let two : (nat_lt q (n + suc m) ≡ true) × (set (q - suc n) ≡ true) = and_parts (nat_lt q (n + suc m)) (set (q - suc n)) one.1 in
        (ltb-true n q one.0, ltb-true q (n + suc m) two.0)

    inner_carried : Carries (made z) (new z y) inner_set
    inner_carried = record {
      entry = λ k. absurd (let parts : (n < 0) × (0 < n + suc m) = inner_parts 0 k in let no : n < 0 = parts.0 in omega (arith, no));
      other = other;
    }
      where
        other : (p q : ℕ) (b c : Block) → slice_get (made z).blocks p ≡ Some b → slice_get (made z).blocks q ≡ Some c → inner_set p ≡ true → (p ≡ 0 → ⊥) → 1 ≤ times b.number (successors c.end)
            → (inner_set q ≡ true) ⊎ (holds (definitions c) (new z y) ≡ true)
        other p q b c at_p at_q marked inner' some = by (by_start z p b at_p)
          where
            lt : n < p
            lt = (inner_parts p marked).0

            le : p < n + suc m
            le = (inner_parts p marked).1

            from : (j : ℕ) (d : Block) → p ≡ n + suc j → slice_get z.callee.blocks j ≡ Some d → b ≡ inner z d → ((r : ℕ) × (o : Block) × Finishes z r o q c) ⊎ (IsFirst z q c ⊎ InCopy z q c)
                → (inner_set q ≡ true) ⊎ (holds (definitions c) (new z y) ≡ true)
            from j d p_is at_j b_is (inl (r, o, t)) =
                let none : times b.number (successors c.end) ≡ 0 = (λ k. times (b_is k).number (successors (t.end k))) ∙ ap (times (new z d.number)) (outer_targets z o.end) ∙ old_targets z r o t.old (new z d.number) (new_past z d.number) in
                absurd (omega (arith, none, some))
            from j d p_is at_j b_is (inr (inl (e, c_is))) =
                let many : times b.number (successors c.end) ≡ times (new z d.number) (successors (first z).end) = λ k. times (b_is k).number (successors (c_is k).end) in
                absurd (no_entry (entry_names (omega (arith, many, some))))
              where
                entry_names : 1 ≤ times (new z d.number) (entry_of (copied_with z.op z.f z.callee z.arguments) ∷ []) → new z d.number ≡ entry_of (copied_with z.op z.f z.callee z.arguments)
                entry_names h = only (among_times (new z d.number) (entry_of (copied_with z.op z.f z.callee z.arguments) ∷ []) h)
                  where
                    only : (new z d.number ≡ entry_of (copied_with z.op z.f z.callee z.arguments)) ⊎ ⊥ → new z d.number ≡ entry_of (copied_with z.op z.f z.callee z.arguments)
                    only (inl h) = h
                    only (inr h) = absurd h

                no_entry : new z d.number ≡ entry_of (copied_with z.op z.f z.callee z.arguments) → ⊥
                no_entry h =
                    let same : d.number ≡ (entry_block z).0.number = copied_apart (first_free z.f) z.callee d.number (entry_block z).0.number (h ∙ entry_is z (entry_block z).0 (entry_block z).1) in
                    let first_one : j ≡ 0 = sym (callee_place z j d at_j) ∙ ap (place z.callee.blocks) same ∙ callee_place z 0 (entry_block z).0 (entry_block z).1 in
                    no_parameter (carries.entry (ap set (sym first_one) ∙ sym (inner_in p j p_is (slice_get_within z.callee.blocks j d at_j)) ∙ marked))
            from j d p_is at_j b_is (inr (inr (i, e, q_is, at_i, c_is))) =
                let many : times b.number (successors c.end) ≡ times d.number (successors e.end) = (λ k. times (b_is k).number (successors (c_is k).end)) ∙ copied_targets z e d.number (block_below z.callee d.number (number_there z.callee j d at_j)) in
                then_in (carries.other j i d e at_j at_i (sym (inner_in p j p_is (slice_get_within z.callee.blocks j d at_j)) ∙ marked) not_first (omega (arith, many, some)))
              where
                not_first : j ≡ 0 → ⊥
                not_first first_one = no_parameter (carries.entry (ap set (sym first_one) ∙ sym (inner_in p j p_is (slice_get_within z.callee.blocks j d at_j)) ∙ marked))

                then_in : (set i ≡ true) ⊎ (holds (definitions e) y ≡ true) → (inner_set q ≡ true) ⊎ (holds (definitions c) (new z y) ≡ true)
                then_in (inl h) = inl (inner_in q i q_is (slice_get_within z.callee.blocks i e at_i) ∙ h)
                then_in (inr h) = inr (ap (λ (x : Block). holds (definitions x) (new z y)) c_is ∙ inner_defines z e y ∙ h)

            by : ((i : ℕ) × (a : Block) × Starts z i a p b) ⊎ (InCopy z p b ⊎ IsSecond z p b) → (inner_set q ≡ true) ⊎ (holds (definitions c) (new z y) ≡ true)
            by (inl (i, a, s)) = absurd (never s.moved)
              where
                never : ((p ≡ i) × (i ≤ n)) ⊎ ((p ≡ i + suc m) × (n < i)) → ⊥
                never (inl k) = omega (arith, lt, k.0, k.1)
                never (inr k) = omega (arith, le, k.0, k.1)
            by (inr (inl (j, d, p_is, at_j, b_is))) = from j d p_is at_j b_is (by_end z q c at_q)
            by (inr (inr (p_is, b_is))) = absurd (omega (arith, le, p_is))

  module _ (no_parameter : holds (parameters z.callee) y ≡ true → ⊥) (there : holds (locals (made z)) (new z y) ≡ true) where
    inner_start : (j : ℕ) (d : Block) → slice_get z.callee.blocks j ≡ Some d → Available z.callee j y → Available (made z) (n + suc j) (new z y)
    inner_start j d at a = by (carried_of z.callee y j a)
      where
        by : (set : ℕ → Bool) × Carries z.callee y set × (set j ≡ true) → Available (made z) (n + suc j) (new z y)
        by (set, carries, k) =
            available_by (made z) (new z y) (inner_set set carries no_parameter) (inner_carried set carries no_parameter) there (n + suc j) (inner z d) (copy_at z j d at)
            (inner_in set carries no_parameter (n + suc j) j refl (slice_get_within z.callee.blocks j d at) ∙ k)

    pub inner_there : (j : ℕ) (d : Block) → slice_get z.callee.blocks j ≡ Some d → (k : ℕ) → AvailableAt z.callee j k y → AvailableAt (made z) (n + suc j) k (new z y)
    inner_there j d at k (inl a) = inl (inner_start j d at a)
    inner_there j d at k (inr e) =
        inr (ap (λ (o : Option Block). defined_before o k (new z y)) (copy_at z j d at) ∙ inner_before z d k y ∙ sym (ap (λ (o : Option Block). defined_before o k y) at) ∙ e)

    pub inner_end : (j : ℕ) (d : Block) → slice_get z.callee.blocks j ≡ Some d → AvailableAtEnd z.callee j y → AvailableAtEnd (made z) (n + suc j) (new z y)
    inner_end j d at a = by (split_end z.callee j d y at a)
      where
        by : Available z.callee j y ⊎ (holds (definitions d) y ≡ true) → AvailableAtEnd (made z) (n + suc j) (new z y)
        by (inl k) = join_end (made z) (n + suc j) (inner z d) (new z y) (copy_at z j d at) (inl (inner_start j d at k))
        by (inr k) = join_end (made z) (n + suc j) (inner z d) (new z y) (copy_at z j d at) (inr (inner_defines z d y ∙ k))
