use Rattle.std.proofs.Common.{◌≡◌, ◌∙◌, ◌<◌, ◌+◌, ◌++◌, ◌∷◌, [], ℕ, List, Bool, true, false, length, take, get_or, set, refl, ap, sym, subst, arith}
use Rattle.std.proofs.lemmas.List.{take_more, get_or_default}
use Rattle.lto_sets.specs.Sets.{contains, meet_of}
use Rattle.ir_flow.specs.declared.work_list.WorkList.{WorkList}
use Rattle.ir_flow.specs.Narrowing.{row_at, IsNarrowed}
use Rattle.ir_flow.proofs.Narrowed.{narrowed-fixed, narrowed-same, narrowed-less}
use Rattle.ir_flow.proofs.narrow.narrow_all.Goals as goal
use Rattle.ir_flow.proofs.narrow.narrow_all.Goals.{then-not-has+then-narrow+in_ok-put, else-not-has, else-not-has-via-then-not-has+else-narrow, else-not-has-via-else-not-has}

pub loop-target-preserved : goal.loop-target-preserved
loop-target-preserved c =
    let targets : List ℕ = c.args.targets.now in
    let fixed : List Bool = c.args.fixed.now in
    let end : List Bool = c.args.end.now in
    let rows0 : List (List Bool) = c.args.rows.now in
    let queue0 : List ℕ = c.args.waiting.now.queue.items in
    let rows : List (List Bool) = c.loop-target.rows in
    let queue : List ℕ = c.loop-target.waiting.queue.items in
    let i : ℕ = c.loop-target.target-index in
    let t : ℕ = get_or targets i 0 in
    let ts : List ℕ = take i targets in
    let d : IsNarrowed ts fixed end rows0 queue0 rows queue = c.loop-target.invariant.done in
    let here : i < length targets = omega arith in
    let more : take (i + 1) targets ≡ ts ++ t ∷ [] = take_more targets i 0 here in
    let inside : t < length rows = omega (arith, c.requires.targets i here, d.long) in
    elim c.if-not-has.branch [
      | then-not-has+then-narrow+in_ok-put w ↦
          let read : get_or rows t w.index-rows-place.result ≡ row_at rows t = get_or_default rows t w.index-rows-place.result [] inside in
          let value : w.narrow.new.row ≡ meet_of (row_at rows t) end = w.narrow.ensures.value ∙ ap (λ (s : List Bool). meet_of s end) read in
          let free : contains fixed t ≡ false = sym c.has.ensures ∙ w.if-not-has.true in
          let put = w.in_ok-put.ensures in
          let new : IsNarrowed (ts ++ t ∷ []) fixed end rows0 queue0 (set rows t (meet_of (row_at rows t) end)) w.put.new.self.queue.items =
          narrowed-less ts fixed end rows0 queue0 rows queue t d inside free w.put.new.self.queue.items put.stay (λ e. w.if-narrow.ensures.changed refl (value ∙ e ∙ sym read)) put.there put.grows in
          record {
            done =
                subst (λ (ks : List ℕ). IsNarrowed ks fixed end rows0 queue0 c.if-not-has.rows c.if-not-has.waiting.queue.items) (sym more)
                (subst (λ (r : List (List Bool)). IsNarrowed (ts ++ t ∷ []) fixed end rows0 queue0 r c.if-not-has.waiting.queue.items) (sym (w.rows-is ∙ ap (set rows t) value))
                (subst (λ (q : WorkList). IsNarrowed (ts ++ t ∷ []) fixed end rows0 queue0 (set rows t (meet_of (row_at rows t) end)) q.queue.items) (sym w.waiting-is) new));
            spare = ap length w.spare-is ∙ w.narrow.ensures.spare ∙ c.loop-target.invariant.spare;
            count = ap (λ (q : WorkList). length q.waiting) w.waiting-is ∙ put.count ∙ c.loop-target.invariant.count;
          }
      | else-not-has w ↦
          elim w.else-not-has.branch [
            | else-not-has-via-then-not-has+else-narrow v ↦
                let read : get_or rows t v.index-rows-place.result ≡ row_at rows t = get_or_default rows t v.index-rows-place.result [] inside in
                let value : v.narrow.new.row ≡ meet_of (row_at rows t) end = v.narrow.ensures.value ∙ ap (λ (s : List Bool). meet_of s end) read in
                let free : contains fixed t ≡ false = sym c.has.ensures ∙ v.if-not-has.true in
                let new : IsNarrowed (ts ++ t ∷ []) fixed end rows0 queue0 (set rows t (meet_of (row_at rows t) end)) queue =
                narrowed-same ts fixed end rows0 queue0 rows queue t d inside free queue (λ b h. h) refl (sym value ∙ v.if-narrow.ensures.same refl ∙ read) in
                record {
                  done =
                      subst (λ (ks : List ℕ). IsNarrowed ks fixed end rows0 queue0 c.if-not-has.rows c.if-not-has.waiting.queue.items) (sym more)
                      (subst (λ (r : List (List Bool)). IsNarrowed (ts ++ t ∷ []) fixed end rows0 queue0 r c.if-not-has.waiting.queue.items) (sym (w.rows-is ∙ v.rows-is ∙ ap (set rows t) value))
                      (subst (λ (q : WorkList). IsNarrowed (ts ++ t ∷ []) fixed end rows0 queue0 (set rows t (meet_of (row_at rows t) end)) q.queue.items) (sym w.waiting-is) new));
                  spare = ap length (w.spare-is ∙ v.spare-is) ∙ v.narrow.ensures.spare ∙ c.loop-target.invariant.spare;
                  count = ap (λ (q : WorkList). length q.waiting) w.waiting-is ∙ c.loop-target.invariant.count;
                }
            | else-not-has-via-else-not-has v ↦
                let has : contains fixed t ≡ true = sym c.has.ensures ∙ v.if-not-has.false in
                let new : IsNarrowed (ts ++ t ∷ []) fixed end rows0 queue0 rows queue = narrowed-fixed ts fixed end rows0 queue0 rows queue t d has in
                record {
                  done =
                      subst (λ (ks : List ℕ). IsNarrowed ks fixed end rows0 queue0 c.if-not-has.rows c.if-not-has.waiting.queue.items) (sym more)
                      (subst (λ (r : List (List Bool)). IsNarrowed (ts ++ t ∷ []) fixed end rows0 queue0 r c.if-not-has.waiting.queue.items) (sym (w.rows-is ∙ v.rows-is))
                      (subst (λ (q : WorkList). IsNarrowed (ts ++ t ∷ []) fixed end rows0 queue0 rows q.queue.items) (sym w.waiting-is) new));
                  spare = ap length (w.spare-is ∙ v.spare-is) ∙ c.loop-target.invariant.spare;
                  count = ap (λ (q : WorkList). length q.waiting) w.waiting-is ∙ c.loop-target.invariant.count;
                }
          ]
    ]
