-- The phi of the returned values: its entries, and the edges on which they come.
use Rattle.std.proofs.Common.{◌≡◌, ℕ, zero, suc, ◌+◌, ◌<◌, ◌≤◌, nat_eq, ◌⊎◌, inl, inr, Bool, true, false, List, [], ◌∷◌, Some, None, map, length, get_or, refl, sym, ◌∙◌, ap, subst, arith, if◌then◌else◌}
use Rattle.std.specs.Prelude.{All, slice_get}
use Rattle.std.proofs.lemmas.Bool.{eq-eqb, ne_eqb}
use Rattle.std.proofs.lemmas.Option.{slice_get-get_or}
use Rattle.ir_tree.specs.Flow.{locals, successors}
use Rattle.ir_tree.specs.Formed.{Distinct, IsBlock, numbers}
use Rattle.ir_tree.specs.Rules.{EndTypes, OnEdges, place}
use Rattle.ir_tree.specs.declared.block.Block.{Block}
use Rattle.ir_tree.specs.declared.block.Terminator.{Terminator}
use Rattle.ir_tree.specs.declared.block.Terminator.TheVariants.{Branch, Jump, Return, Switch, Unreachable}
use Rattle.ir_tree.specs.declared.instr.Incoming.{Incoming}
use Rattle.ir_tree.specs.declared.operand.Argument.{Argument}
use Rattle.ir_tree.specs.declared.operand.Operand.{Operand}
use Rattle.ir_tree.specs.declared.operand.Reg.{Reg}
use Rattle.ir_tree.specs.declared.rule.Rule.TheVariants.{TypeMismatch}
use Rattle.ir_tree.specs.Edited.{block_edited, end_edited}
use Rattle.ir_meaning.specs.Counted.{sources, times}
use Rattle.ir_meaning.proofs.Counting.{distinct_rest, here, later, number_at, numbers_in}
use Rattle.ir_meaning.proofs.Entries.{apart, distinct_back}
use Rattle.inline_site.specs.Copies.{first_free}
use Rattle.inline_site.specs.Inlined.{block_named, end_leading, return_entries, return_entry}
use Rattle.inline_site.proofs.Copied.{copied_apart}
use Rattle.inline_site.proofs.EditedItems.{targets_edited}
use Rattle.inline_site.proofs.Elements.{In}
use Rattle.inline_site.proofs.Fresh.{behind_past, distinct, new_not_behind, new_past}
use Rattle.inline_site.proofs.Leading.{block_below, callee_place, first_not_behind, items_right, named_cases, number_there, old_targets, outer_targets, targets_right}
use Rattle.inline_site.proofs.MovedEdges.{never, on_edges_by}
use Rattle.inline_site.proofs.MovedItems.{IsRight, in_block}
use Rattle.inline_site.proofs.Places.{Finishes, InCopy, Inlining, IsFirst, behind, by_end, copied_with, copy_at, inner, inner_op, made, new, second, second_at, was_here}

-- the value of an entry, and whence it comes
abbrev pub IsReturned : (ℕ → ℕ) → (Operand → Operand) → List Block → Incoming → Type 0
IsReturned number op bs e = (j : ℕ) × (d : Block) × (a : Argument) × (slice_get bs j ≡ Some d) × (d.end ≡ Return (Some a)) × (e ≡ record { from = number d.number; value = op a.operand })

none_of : (b : Bool) (n : ℕ) → n ≡ (if b then 0 else 0) + n
none_of true n = omega arith
none_of false n = omega arith

-- how many values a terminator returns
abbrev pub values : Terminator → ℕ
values (Return (Some a)) = 1
values _ = 0

module _ (number : ℕ → ℕ) (op : Operand → Operand) where
  abbrev entries : List Block → List Incoming
  entries bs = return_entries (map (block_edited number op) bs)

  further : (b : Block) (bs : List Block) (e : Incoming) → IsReturned number op bs e → IsReturned number op (b ∷ bs) e
  further b bs e (j, d, a, at, end, is) = (suc j, d, a, at, end, is)

  pub returned : (bs : List Block) (e : Incoming) → In e (return_entries (map (block_edited number op) bs)) → IsReturned number op bs e
  returned [] e (i, at) = absurd cc
  returned (b ∷ bs) e there = by b.end refl there (returned bs e)
    where
      here : (a : Argument) → b.end ≡ Return (Some a) → In e (record { from = number b.number; value = op a.operand } ∷ entries bs) → (In e (entries bs) → IsReturned number op bs e) → IsReturned number op (b ∷ bs) e
      here a is (zero, at) more = (0, b, a, refl, is, sym (cc at))
      here a is (suc i, at) more = further b bs e (more (i, at))

      by : (t : Terminator) → b.end ≡ t → In e (return_entry (number b.number) (end_edited number op t) (entries bs)) → (In e (entries bs) → IsReturned number op bs e) → IsReturned number op (b ∷ bs) e
      by (Return (Some a)) is h more = here a is h more
      by (Return None) is h more = further b bs e (more h)
      by (Jump target) is h more = further b bs e (more h)
      by (Branch condition if_true if_false) is h more = further b bs e (more h)
      by (Switch width value default cases) is h more = further b bs e (more h)
      by Unreachable is h more = further b bs e (more h)

  one_more : (n x : ℕ) (t : Terminator) (es : List Incoming) → times x (sources (return_entry n (end_edited number op t) es)) ≡ (if nat_eq n x then values t else 0) + times x (sources es)
  one_more n x (Return (Some a)) es = by (nat_eq n x)
    where
      by : (b : Bool) → (if b then suc (times x (sources es)) else times x (sources es)) ≡ (if b then 1 else 0) + times x (sources es)
      by true = omega arith
      by false = omega arith
  one_more n x (Return None) es = none_of (nat_eq n x) (times x (sources es))
  one_more n x (Jump target) es = none_of (nat_eq n x) (times x (sources es))
  one_more n x (Branch condition if_true if_false) es = none_of (nat_eq n x) (times x (sources es))
  one_more n x (Switch width value default cases) es = none_of (nat_eq n x) (times x (sources es))
  one_more n x Unreachable es = none_of (nat_eq n x) (times x (sources es))

  module _ (one : (x y : ℕ) → number x ≡ number y → x ≡ y) where
    -- no block has the number
    none_named : (x : ℕ) (bs : List Block) → ((j : ℕ) (d : Block) → slice_get bs j ≡ Some d → d.number ≡ x → ⊥) → times (number x) (sources (entries bs)) ≡ 0
    none_named x [] h = refl
    none_named x (b ∷ bs) h =
        one_more (number b.number) (number x) b.end (entries bs)
        ∙ (λ i. (if ne_eqb (number b.number) (number x) (λ e. h 0 b refl (one b.number x e)) i then values b.end else 0) + none_named x bs (λ j d at. h (suc j) d at) i)
        ∙ omega arith

    -- a block has as many entries as it returns values
    pub entries_count : (bs : List Block) → Distinct (numbers_in bs) → (j : ℕ) (d : Block) → slice_get bs j ≡ Some d → times (number d.number) (sources (return_entries (map (block_edited number op) bs))) ≡ values d.end
    entries_count [] differ j d at = absurd cc
    entries_count (b ∷ bs) differ zero d at =
        let same : b ≡ d = cc at in
        subst (λ (x : Block). times (number x.number) (sources (entries (b ∷ bs))) ≡ values x.end) same
        (one_more (number b.number) (number b.number) b.end (entries bs)
        ∙ (λ i. (if eq-eqb (number b.number) (number b.number) refl i then values b.end else 0) + none_named b.number bs (λ j x at' e. afterwards j x at' e) i)
        ∙ omega arith)
      where
        afterwards : (j : ℕ) (x : Block) → slice_get bs j ≡ Some x → x.number ≡ b.number → ⊥
        afterwards j x at' e = let is : 0 ≡ suc j = differ 0 (suc j) b.number refl (number_at bs j x at' ∙ ap (λ (n : ℕ). Some n) e) in omega (arith, is)
    entries_count (b ∷ bs) differ (suc j) d at =
        one_more (number b.number) (number d.number) b.end (entries bs)
        ∙ (λ i. (if ne_eqb (number b.number) (number d.number) (λ e. apart_of (one b.number d.number e)) i then values b.end else 0) + entries_count bs (distinct_rest b.number (numbers_in bs) differ) j d at i)
        ∙ omega arith
      where
        apart_of : b.number ≡ d.number → ⊥
        apart_of e = let is : 0 ≡ suc j = differ 0 (suc j) b.number refl (number_at bs j d at ∙ ap (λ (n : ℕ). Some n) (sym e)) in omega (arith, is)

-- ---- behind the call

module _ (z : Inlining) (reg : Reg) (result : z.callee.result ≡ Some reg) where
  -- each return of the callee returns a value of its type
  pub return_has : (j : ℕ) (d : Block) → slice_get z.callee.blocks j ≡ Some d → (a : Argument) → d.end ≡ Return (Some a) → a.reg ≡ reg
  return_has j d at a is =
      let same : Some a.reg ≡ Some reg = end_types a is ∙ result in
      cc same
    where
      end_types : (a : Argument) → d.end ≡ Return (Some a) → Some a.reg ≡ z.callee.result
      end_types a is = by d.end is ((in_block (IsRight z.callee) j d (items_right z.callee z.sound' j d at)).end.1 TypeMismatch).1
        where
          by : (t : Terminator) → t ≡ Return (Some a) → EndTypes z.callee t → Some a.reg ≡ z.callee.result
          by t e h = subst (EndTypes z.callee) e h

  -- a block leads behind the call as often as it returns a value
  leads_back : (j : ℕ) (d : Block) → slice_get z.callee.blocks j ≡ Some d → times (behind z) (successors (inner z d).end) ≡ values d.end
  leads_back j d at = by d.end refl ((in_block (IsRight z.callee) j d (items_right z.callee z.sound' j d at)).end.1 TypeMismatch).1
    where
      never_behind : (ts : List ℕ) → ((x : ℕ) → 1 ≤ times x ts → x < first_free z.callee) → times (behind z) (map (new z) ts) ≡ 0
      never_behind [] h = refl
      never_behind (t ∷ ts) h =
          ap (λ (b : Bool). if b then suc (times (behind z) (map (new z) ts)) else times (behind z) (map (new z) ts)) (ne_eqb (new z t) (behind z) (new_not_behind z t (h t (here t t ts refl))))
          ∙ never_behind ts (λ x some. h x (later x t ts some))

      others : (t : Terminator) → d.end ≡ t → successors (end_leading (behind z) (end_edited (new z) (inner_op z) t)) ≡ map (new z) (successors t) → times (behind z) (successors (end_leading (behind z) (end_edited (new z) (inner_op z) t))) ≡ 0
      others t is e =
          ap (times (behind z)) e
          ∙ never_behind (successors t) (λ x some. block_below z.callee x (targets_right z.callee z.sound' j d at x (subst (λ (u : Terminator). 1 ≤ times x (successors u)) (sym is) some)))

      by : (t : Terminator) → d.end ≡ t → EndTypes z.callee t → times (behind z) (successors (end_leading (behind z) (end_edited (new z) (inner_op z) t))) ≡ values t
      by (Return (Some a)) is h = ap (λ (b : Bool). if b then 1 else 0) (eq-eqb (behind z) (behind z) refl)
      by (Return None) is h = let none : None ≡ Some reg = h ∙ result in absurd (cc none)
      by (Jump target) is h = others (Jump target) is refl
      by (Branch condition if_true if_false) is h = others (Branch condition if_true if_false) is refl
      by (Switch width value default cases) is h = others (Switch width value default cases) is (targets_edited (new z) (inner_op z) (Switch width value default cases))
      by Unreachable is h = others Unreachable is refl

  source_there : (e : Incoming) → IsReturned (new z) (inner_op z) z.callee.blocks e → IsBlock (made z) e.from
  source_there e (j, d, a, at, end, is) = subst (λ (x : Incoming). IsBlock (made z) x.from) (sym is) (number_there (made z) (length z.s.front + suc j) (inner z d) (copy_at z j d at))

  pub each_returned : All (IsReturned (new z) (inner_op z) z.callee.blocks) (return_entries (copied_with z.op z.f z.callee z.arguments))
  each_returned = λ k d lt. returned (new z) (inner_op z) z.callee.blocks (get_or (return_entries (copied_with z.op z.f z.callee z.arguments)) k d) (k, slice_get-get_or (return_entries (copied_with z.op z.f z.callee z.arguments)) k d lt)

  -- no entry names a block that isn't one of the copy
  none_from : (x : ℕ) → ((j : ℕ) (d : Block) → slice_get z.callee.blocks j ≡ Some d → new z d.number ≡ x → ⊥) → times x (sources (return_entries (copied_with z.op z.f z.callee z.arguments))) ≡ 0
  none_from x away = never x (return_entries (copied_with z.op z.f z.callee z.arguments)) (λ k d lt. other (get_or (return_entries (copied_with z.op z.f z.callee z.arguments)) k d) (each_returned k d lt))
    where
      other : (e : Incoming) → IsReturned (new z) (inner_op z) z.callee.blocks e → e.from ≡ x → ⊥
      other e (j, d, a, at, end, is) same = away j d at (sym (ap (λ (y : Incoming). y.from) is) ∙ same)

  pub result_edges : OnEdges (made z) (length z.s.front + suc (length z.callee.blocks)) (return_entries (copied_with z.op z.f z.callee z.arguments))
  result_edges =
      on_edges_by (made z) (distinct_back (locals (made z)) (numbers (made z)) (distinct z)) (length z.s.front + suc (length z.callee.blocks)) (second z) (second_at z) (return_entries (copied_with z.op z.f z.callee z.arguments))
      (λ k d lt. source_there (get_or (return_entries (copied_with z.op z.f z.callee z.arguments)) k d) (each_returned k d lt)) (λ q c at. many q c at (by_end z q c at))
      (λ k l e d at_k at_l same. equal e d same (returned (new z) (inner_op z) z.callee.blocks e (k, at_k)) (returned (new z) (inner_op z) z.callee.blocks d (l, at_l)))
    where
      many : (q : ℕ) (c : Block) → slice_get (made z).blocks q ≡ Some c → ((i : ℕ) × (b : Block) × Finishes z i b q c) ⊎ (IsFirst z q c ⊎ InCopy z q c)
          → times c.number (sources (return_entries (copied_with z.op z.f z.callee z.arguments))) ≡ times (behind z) (successors c.end)
      many q c at (inl (i, b, s)) = none_from c.number (λ j d at_j e. away i b s d (number_there z.callee j d at_j) e (named_cases z.s.block.number (behind z) b.number)) ∙ sym none
        where
          away : (i : ℕ) (b : Block) → Finishes z i b q c → (d : Block) → IsBlock z.callee d.number → new z d.number ≡ c.number
              → ((b.number ≡ z.s.block.number) × (block_named z.s.block.number (behind z) b.number ≡ behind z)) ⊎ ((b.number ≡ z.s.block.number → ⊥) × (block_named z.s.block.number (behind z) b.number ≡ b.number)) → ⊥
          away i b s d there e (inl k) = new_not_behind z d.number (block_below z.callee d.number there) (e ∙ s.number ∙ k.1)
          away i b s d there e (inr k) =
              let same : new z d.number ≡ b.number = e ∙ s.number ∙ k.1 in
              let lt : b.number < first_free z.f = block_below z.f b.number (number_there z.f i b s.old) in
              let past : first_free z.f ≤ new z d.number = new_past z d.number in
              omega (arith, same, lt, past)

          none : times (behind z) (successors c.end) ≡ 0
          none = (λ k. times (behind z) (successors (s.end k))) ∙ ap (times (behind z)) (outer_targets z b.end) ∙ old_targets z i b s.old (behind z) (behind_past z)
      many q c at (inr (inl (q_is, c_is))) = none_from c.number (λ j d at_j e. away d (e ∙ ap (λ (x : Block). x.number) c_is)) ∙ sym ((λ k. times (behind z) (successors (c_is k).end)) ∙ first_not_behind z)
        where
          away : (d : Block) → new z d.number ≡ z.s.block.number → ⊥
          away d same =
              let lt : z.s.block.number < first_free z.f = block_below z.f z.s.block.number (number_there z.f (length z.s.front) z.s.block (was_here z)) in
              let past : first_free z.f ≤ new z d.number = new_past z d.number in
              omega (arith, same, lt, past)
      many q c at (inr (inr (j, d, q_is, at_j, c_is))) =
          (λ k. times (c_is k).number (sources (return_entries (copied_with z.op z.f z.callee z.arguments))))
          ∙ entries_count (new z) (inner_op z) (copied_apart (first_free z.f) z.callee) z.callee.blocks (apart z.callee z.sound'.formed) j d at_j
          ∙ sym ((λ k. times (behind z) (successors (c_is k).end)) ∙ leads_back j d at_j)

      equal : (e d : Incoming) → e.from ≡ d.from → IsReturned (new z) (inner_op z) z.callee.blocks e → IsReturned (new z) (inner_op z) z.callee.blocks d → e.value ≡ d.value
      equal e d same (i, b, a, at_i, b_end, e_is) (j, c, v, at_j, c_end, d_is) =
          let numbers' : b.number ≡ c.number = copied_apart (first_free z.f) z.callee b.number c.number (sym (ap (λ (x : Incoming). x.from) e_is) ∙ same ∙ ap (λ (x : Incoming). x.from) d_is) in
          let place' : i ≡ j = sym (callee_place z i b at_i) ∙ ap (place z.callee.blocks) numbers' ∙ callee_place z j c at_j in
          let block' : Some b ≡ Some c = sym at_i ∙ ap (slice_get z.callee.blocks) place' ∙ at_j in
          let same_block : b ≡ c = cc block' in
          let ends : Return (Some a) ≡ Return (Some v) = sym b_end ∙ ap (λ (x : Block). x.end) same_block ∙ c_end in
          let value' : a ≡ v = cc ends in
          ap (λ (x : Incoming). x.value) e_is ∙ ap (λ (x : Argument). inner_op z x.operand) value' ∙ sym (ap (λ (x : Incoming). x.value) d_is)
