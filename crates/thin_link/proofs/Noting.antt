-- Sets that are rows of turns.
use Rattle.std.proofs.Common.{◌≡◌, ◌∙◌, ℕ, ◌+◌, ◌<◌, ◌≤◌, true, false, nat_eq, List, length, set, replicate, get_or, refl, sym, ap, arith}
use Rattle.std.proofs.lemmas.Bool.{eq-eqb, ne_eqb}
use Rattle.std.proofs.lemmas.List.{ext_get_or, get_or-map, get_or-replicate, length-map, length-replicate, map-set}
use Rattle.std.proofs.lemmas.List.Elements.{All-set, All-weaker}
use Rattle.lto_sets.specs.Sets.{contains}
use Rattle.thin_link.specs.Views.{AreNoted, noted_in}

pub noted_long : (turn : ℕ) (turns : List ℕ) → length (noted_in turn turns) ≡ length turns
noted_long turn turns = length-map turns (nat_eq turn)

pub noted_at : (turn n d : ℕ) (turns : List ℕ) → n < length turns → contains (noted_in turn turns) n ≡ nat_eq turn (get_or turns n d)
noted_at turn n d turns h = get_or-map (nat_eq turn) turns n d false h

-- a further turn has noted nothing
pub emptied : (turn : ℕ) (turns : List ℕ) → AreNoted turn turns → noted_in (turn + 1) turns ≡ replicate (length (noted_in turn turns)) false
emptied turn turns noted =
    ext_get_or false (noted_in (turn + 1) turns) (replicate (length (noted_in turn turns)) false)
    (noted_long (turn + 1) turns ∙ sym (noted_long turn turns) ∙ sym (length-replicate (length (noted_in turn turns)) false))
    (λ k h.
    let inside : k < length turns = omega (arith, h, noted_long (turn + 1) turns) in
    let below : get_or turns k 0 ≤ turn = noted k 0 inside in
    noted_at (turn + 1) k 0 turns inside
    ∙ ne_eqb (turn + 1) (get_or turns k 0) (λ e. absurd (omega (arith, e, below)))
    ∙ sym (get_or-replicate (length (noted_in turn turns)) k false false (omega (arith, inside, noted_long turn turns))))

pub further : (turn : ℕ) (turns : List ℕ) → AreNoted turn turns → AreNoted (turn + 1) turns
further turn turns noted = All-weaker (λ t. t ≤ turn) (λ t. t ≤ turn + 1) (λ t h. omega (arith, h)) turns noted

-- one more number is noted
pub noted_more : (turn n : ℕ) (turns : List ℕ) → noted_in turn (set turns n turn) ≡ set (noted_in turn turns) n true
noted_more turn n turns = map-set (nat_eq turn) turns n turn ∙ ap (set (noted_in turn turns) n) (eq-eqb turn turn refl)

pub still_noted : (turn n : ℕ) (turns : List ℕ) → AreNoted turn turns → AreNoted turn (set turns n turn)
still_noted turn n turns noted = All-set (λ t. t ≤ turn) turns n turn (omega arith) noted
