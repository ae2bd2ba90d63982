use Rattle.std.proofs.Common.{◌≡◌, ◌<◌, ◌∙◌, ℕ, zero, suc, Bool, false, List, [], ◌∷◌, slice_index_or, slice_set, refl, sym, subst, arith}
use Rattle.cache_slot.proofs.lock.TicketLock.close.Goals as goal

pub take-value-requires : goal.take-value-requires
take-value-requires g c = c.requires

pub take-requires : goal.take-requires
take-requires g c =
    let one = c.close-closed.ensures.counts.1 ∙ c.args.self.wide.1 in
    let low = subst (λ (n : ℕ). 0 < n) (sym one) (omega arith) in
    (low, c.close-closed.ensures.values.1 0 (omega arith) low)

-- a row of one place, which is empty
emptied : (filled : List Bool) (k : ℕ) → k < 1 → slice_index_or (slice_set filled 0 false) k false ≡ false
emptied [] zero low = refl
emptied (f ∷ fs) zero low = refl
emptied filled (suc k) low = absurd (omega (arith, low))

pub free-requires : goal.free-requires
free-requires g c k low =
    subst (λ (filled : List Bool). slice_index_or filled k false ≡ false) (sym c.take.ensures.others.1)
    (emptied _ k (subst (λ (n : ℕ). k < n) (c.take.ensures.others.2 ∙ c.close-closed.ensures.counts.1 ∙ c.args.self.wide.1) low))

pub returns : goal.returns
returns g c = c.take-value.ensures.seen
