-- Where a local that is found in the definitions stands.
use Rattle.std.proofs.Common.{◌≡◌, ℕ, zero, suc, ◌+◌, ◌<◌, Bool, true, false, List, [], ◌∷◌, ◌++◌, length, take, refl, sym, ap, subst, ◌∙◌, arith, inl, inr, ◌⊎◌}
use Rattle.std.specs.Prelude.{nat_eq, ◌||◌, if◌then◌else◌, map, slice_get, Option, Some, None, flat_map}
use Rattle.std.specs.List.{cons_option}
use Rattle.std.proofs.lemmas.Bool.{or_cases, or_left, or_right, eqb-true, eq-eqb, ne_eqb, false≢true}
use Rattle.std.proofs.lemmas.List.{map-append}
use Rattle.std.proofs.lemmas.List.Folds.{list_any-append}
use Rattle.std.proofs.lemmas.Option.{none-some, same_Some}
use Rattle.ir_tree.specs.declared.block.Block.{Block}
use Rattle.ir_tree.specs.declared.function.Function.{Function}
use Rattle.ir_tree.specs.declared.function.Param.{Param}
use Rattle.ir_tree.specs.declared.instr.Line.{Line}
use Rattle.ir_tree.specs.declared.instr.Phi.{Phi}
use Rattle.ir_tree.specs.declared.operand.Reg.{Reg}
use Rattle.ir_tree.specs.Flow as flow
use Rattle.ir_tree.specs.Flow.{holds, parameters, phi_locals, results, locals}
use Rattle.ir_tree.specs.Rules.{result_type}
use Rattle.ir_verify.specs.declared.definitions.Definition.{Definition}
use Rattle.ir_verify.specs.declared.definitions.Home.{Home}
use Rattle.ir_verify.specs.Definitions.{Pair, param_pair, param_pairs, phi_pairs, named, line_pairs, block_pairs, blocks_pairs, definitions}
use Rattle.ir_verify.specs.Homes.{IsBorn, IsHome}
use Rattle.ir_verify.specs.Tables.{found}
use Rattle.ir_verify.proofs.Found.{found_first, found_last}

home : ℕ → ℕ → Home
home b k = record { block = b; after = k }

turned : (y x : ℕ) → nat_eq y x ≡ true → nat_eq x y ≡ true
turned y x e = eq-eqb x y (sym (eqb-true y x e))

apart : (y x : ℕ) → nat_eq y x ≡ false → nat_eq x y ≡ false
apart y x e = ne_eqb x y (λ q. false≢true (sym e ∙ eq-eqb y x (sym q)))

-- ---- the numbers of the definitions are the locals

keys : List Pair → List ℕ
keys ps = map (λ p. p.0) ps

keys_params : (ps : List Param) → keys (param_pairs ps) ≡ map (λ p. p.local) ps
unfolding keys
keys_params [] = refl
keys_params (p ∷ ps) = ap (λ xs. p.local ∷ xs) (keys_params ps)

keys_phis : (b : ℕ) (ps : List Phi) → keys (phi_pairs b ps) ≡ map (λ p. p.local) ps
unfolding keys
keys_phis b [] = refl
keys_phis b (p ∷ ps) = ap (λ xs. p.local ∷ xs) (keys_phis b ps)

keys_named : (o : Option ℕ) (reg : Option Reg) (b k : ℕ) (ps : List Pair) (xs : List ℕ) → keys ps ≡ xs → keys (named o reg b k ++ ps) ≡ cons_option o xs
unfolding keys
keys_named None reg b k ps xs e = e
keys_named (Some x) reg b k ps xs e = ap (λ more. x ∷ more) e

keys_lines : (b k : ℕ) (ls : List Line) → keys (line_pairs b k ls) ≡ results ls
unfolding keys
keys_lines b k [] = refl
keys_lines b k (l ∷ ls) = keys_named l.local (result_type l.instr) b (suc k) (line_pairs b (suc k) ls) (results ls) (keys_lines b (suc k) ls)

keys_block : (b : ℕ) (block : Block) → keys (block_pairs b block) ≡ flow.definitions block
unfolding keys
keys_block b block =
    map-append (λ p. p.0) (phi_pairs b block.phis) (line_pairs b 0 block.lines)
    ∙ ap (λ xs. xs ++ keys (line_pairs b 0 block.lines)) (keys_phis b block.phis)
    ∙ ap (λ xs. phi_locals block ++ xs) (keys_lines b 0 block.lines)

keys_blocks : (b : ℕ) (bs : List Block) → keys (blocks_pairs b bs) ≡ flat_map flow.definitions bs
unfolding keys
keys_blocks b [] = refl
keys_blocks b (block ∷ bs) =
    map-append (λ p. p.0) (block_pairs b block) (blocks_pairs (suc b) bs)
    ∙ ap (λ xs. xs ++ keys (blocks_pairs (suc b) bs)) (keys_block b block)
    ∙ ap (λ xs. flow.definitions block ++ xs) (keys_blocks (suc b) bs)

keys_all : (f : Function) → keys (definitions f) ≡ locals f
unfolding keys definitions
keys_all f =
    map-append (λ p. p.0) (param_pairs f.params) (blocks_pairs 0 f.blocks)
    ∙ ap (λ xs. xs ++ keys (blocks_pairs 0 f.blocks)) (keys_params f.params)
    ∙ ap (λ xs. parameters f ++ xs) (keys_blocks 0 f.blocks)

not_found : (ps : List Pair) (x : ℕ) → found ps x ≡ None → holds (keys ps) x ≡ true → ⊥
unfolding keys
not_found [] x e h = false≢true h
not_found (p ∷ ps) x e h = step (not_found ps x) (nat_eq p.0 x) refl e
  where
    step : (found ps x ≡ None → holds (keys ps) x ≡ true → ⊥) → (t : Bool) → nat_eq p.0 x ≡ t → (if t then Some p.1 else found ps x) ≡ None → ⊥
    step again true q s = none-some p.1 (sym s)
    step again false q s = again s (sym (ap (λ (v : Bool). v || holds (keys ps) x) (apart p.0 x q)) ∙ h)

-- a local of the function is found
pub local_found : (f : Function) (x : ℕ) → holds (locals f) x ≡ true → found (definitions f) x ≡ None → ⊥
local_found f x h e = not_found (definitions f) x e (subst (λ xs. holds xs x ≡ true) (sym (keys_all f)) h)

held_key : (ps : List Pair) (x : ℕ) (d : Definition) → found ps x ≡ Some d → holds (keys ps) x ≡ true
unfolding keys
held_key [] x d e = absurd (none-some d e)
held_key (p ∷ ps) x d e = step (held_key ps x d) (nat_eq p.0 x) refl e
  where
    step : (found ps x ≡ Some d → holds (keys ps) x ≡ true) → (t : Bool) → nat_eq p.0 x ≡ t → (if t then Some p.1 else found ps x) ≡ Some d → (nat_eq x p.0 || holds (keys ps) x) ≡ true
    step again true q s = or_left (nat_eq x p.0) (holds (keys ps) x) (turned p.0 x q)
    step again false q s = or_right (nat_eq x p.0) (holds (keys ps) x) (again s)

-- what is found is a local of the function
pub found_local : (f : Function) (x : ℕ) (d : Definition) → found (definitions f) x ≡ Some d → holds (locals f) x ≡ true
found_local f x d e = subst (λ xs. holds xs x ≡ true) (keys_all f) (held_key (definitions f) x d e)

-- ---- where it is found

from_params : (ps : List Param) (qs : List Pair) (x : ℕ) (d : Definition) → found (param_pairs ps ++ qs) x ≡ Some d → ((holds (map (λ p. p.local) ps) x ≡ true) × (d.home ≡ None)) ⊎ (found qs x ≡ Some d)
from_params [] qs x d e = inr e
from_params (p ∷ ps) qs x d e = step (from_params ps qs x d) (nat_eq p.local x) refl e
  where
    step : (found (param_pairs ps ++ qs) x ≡ Some d → ((holds (map (λ p. p.local) ps) x ≡ true) × (d.home ≡ None)) ⊎ (found qs x ≡ Some d)) → (t : Bool) → nat_eq p.local x ≡ t → (if t then Some (param_pair p).1 else found (param_pairs ps ++ qs) x) ≡ Some d → ((holds (map (λ p. p.local) (p ∷ ps)) x ≡ true) × (d.home ≡ None)) ⊎ (found qs x ≡ Some d)
    step again true q s = inl (or_left (nat_eq x p.local) (holds (map (λ p. p.local) ps) x) (turned p.local x q), sym (ap (λ (v : Definition). v.home) (same_Some (param_pair p).1 d s)))
    step again false q s = elim (again s) [ inl w ↦ inl (or_right (nat_eq x p.local) (holds (map (λ p. p.local) ps) x) w.0, w.1) | inr w ↦ inr w ]

from_phis : (b : ℕ) (ps : List Phi) (x : ℕ) (d : Definition) → found (phi_pairs b ps) x ≡ Some d → (holds (map (λ p. p.local) ps) x ≡ true) × (d.home ≡ Some (home b 0))
unfolding home
from_phis b [] x d e = absurd (none-some d e)
from_phis b (p ∷ ps) x d e = step (from_phis b ps x d) (nat_eq p.local x) refl e
  where
    step : (found (phi_pairs b ps) x ≡ Some d → (holds (map (λ p. p.local) ps) x ≡ true) × (d.home ≡ Some (record { block = b; after = 0 }))) → (t : Bool) → nat_eq p.local x ≡ t → (if t then Some (record { reg = Some p.reg; home = Some (record { block = b; after = 0 }) }) else found (phi_pairs b ps) x) ≡ Some d → (holds (map (λ p. p.local) (p ∷ ps)) x ≡ true) × (d.home ≡ Some (record { block = b; after = 0 }))
    step again true q s = (or_left (nat_eq x p.local) (holds (map (λ p. p.local) ps) x) (turned p.local x q), sym (ap (λ (v : Definition). v.home) (same_Some (record { reg = Some p.reg; home = Some (record { block = b; after = 0 }) }) d s)))
    step again false q s = let w = again s in (or_right (nat_eq x p.local) (holds (map (λ p. p.local) ps) x) w.0, w.1)

-- the line m gives the local, and none before it
record IsGiven (ls : List Line) (m x : ℕ) : Type 0 where
  here : (k : ℕ) → m < k → holds (results (take k ls)) x ≡ true
  first : (k : ℕ) → holds (results (take k ls)) x ≡ true → m < k
  below : m < length ls

given_later : (l : Line) (ls : List Line) (m x : ℕ) → ((ys : List ℕ) → holds (cons_option l.local ys) x ≡ holds ys x) → IsGiven ls m x → IsGiven (l ∷ ls) (suc m) x
given_later l ls m x skip g = record { here = here; first = first; below = omega (arith, g.below) }
  where
    here : (k : ℕ) → suc m < k → holds (results (take k (l ∷ ls))) x ≡ true
    here zero h = absurd (omega arith)
    here (suc k) h = skip (results (take k ls)) ∙ g.here k (omega (arith, h))

    first : (k : ℕ) → holds (results (take k (l ∷ ls))) x ≡ true → suc m < k
    first zero h = absurd (false≢true h)
    first (suc k) h = let less = g.first k (sym (skip (results (take k ls))) ∙ h) in omega (arith, less)

given_here : (l : Line) (ls : List Line) (y x : ℕ) → l.local ≡ Some y → nat_eq y x ≡ true → IsGiven (l ∷ ls) 0 x
given_here l ls y x q t = record { here = here; first = first; below = omega arith }
  where
    here : (k : ℕ) → 0 < k → holds (results (take k (l ∷ ls))) x ≡ true
    here zero h = absurd (omega arith)
    here (suc k) h = ap (λ o. holds (cons_option o (results (take k ls))) x) q ∙ or_left (nat_eq x y) (holds (results (take k ls)) x) (turned y x t)

    first : (k : ℕ) → holds (results (take k (l ∷ ls))) x ≡ true → 0 < k
    first zero h = absurd (false≢true h)
    first (suc k) h = omega arith

from_lines : (b n : ℕ) (ls : List Line) (x : ℕ) (d : Definition) → found (line_pairs b n ls) x ≡ Some d → (m : ℕ) × (d.home ≡ Some (home b (n + suc m))) × IsGiven ls m x
unfolding home
from_lines b n [] x d e = absurd (none-some d e)
from_lines b n (l ∷ ls) x d e = by (from_lines b (suc n) ls x d) l.local refl e
  where
    further : (found (line_pairs b (suc n) ls) x ≡ Some d → (m : ℕ) × (d.home ≡ Some (home b (suc n + suc m))) × IsGiven ls m x) → ((ys : List ℕ) → holds (cons_option l.local ys) x ≡ holds ys x) → found (line_pairs b (suc n) ls) x ≡ Some d → (m : ℕ) × (d.home ≡ Some (home b (n + suc m))) × IsGiven (l ∷ ls) m x
    further again skip s =
        let w = again s in
        let same : suc n + suc w.0 ≡ n + suc (suc w.0) = omega arith in
        (suc w.0, w.1 ∙ ap (λ (k : ℕ). Some (home b k)) same, given_later l ls w.0 x skip w.2)

    at : (found (line_pairs b (suc n) ls) x ≡ Some d → (m : ℕ) × (d.home ≡ Some (home b (suc n + suc m))) × IsGiven ls m x) → (y : ℕ) → l.local ≡ Some y → (t : Bool) → nat_eq y x ≡ t → (if t then Some (record { reg = result_type l.instr; home = Some (record { block = b; after = suc n }) }) else found (line_pairs b (suc n) ls) x) ≡ Some d → (m : ℕ) × (d.home ≡ Some (home b (n + suc m))) × IsGiven (l ∷ ls) m x
    at again y q true t s =
        let same : suc n ≡ n + suc 0 = omega arith in
        (0, sym (ap (λ (v : Definition). v.home) (same_Some (record { reg = result_type l.instr; home = Some (record { block = b; after = suc n }) }) d s)) ∙ ap (λ (k : ℕ). Some (home b k)) same, given_here l ls y x q t)
    at again y q false t s =
        further again (λ ys. ap (λ o. holds (cons_option o ys) x) q ∙ ap (λ (v : Bool). v || holds ys x) (apart y x t)) s

    by : (found (line_pairs b (suc n) ls) x ≡ Some d → (m : ℕ) × (d.home ≡ Some (home b (suc n + suc m))) × IsGiven ls m x) → (o : Option ℕ) → l.local ≡ o → found (named o (result_type l.instr) b (suc n) ++ line_pairs b (suc n) ls) x ≡ Some d → (m : ℕ) × (d.home ≡ Some (home b (n + suc m))) × IsGiven (l ∷ ls) m x
    by again None q s = further again (λ ys. ap (λ o. holds (cons_option o ys) x) q) s
    by again (Some y) q s = at again y q (nat_eq y x) refl s

take_all : {X : Type 0} (xs : List X) → take (length xs) xs ≡ xs
take_all [] = refl
take_all (x ∷ xs) = ap (λ ys. x ∷ ys) (take_all xs)

from_block : (b : ℕ) (block : Block) (x : ℕ) (d : Definition) → found (block_pairs b block) x ≡ Some d → (a : ℕ) × (d.home ≡ Some (home b a)) × IsBorn block a x
from_block b block x d e = by (found (phi_pairs b block.phis) x) refl
  where
    join : (xs : List ℕ) → holds (phi_locals block ++ xs) x ≡ (holds (phi_locals block) x || holds xs x)
    join xs = list_any-append (nat_eq x) (phi_locals block) xs

    by : (o : Option Definition) → found (phi_pairs b block.phis) x ≡ o → (a : ℕ) × (d.home ≡ Some (home b a)) × IsBorn block a x
    by (Some w) q =
        let same = same_Some w d (sym (found_first (phi_pairs b block.phis) (line_pairs b 0 block.lines) x w q) ∙ e) in
        let phi = from_phis b block.phis x w q in
        let all : (xs : List ℕ) → holds (phi_locals block ++ xs) x ≡ true = λ xs. join xs ∙ or_left (holds (phi_locals block) x) (holds xs x) phi.0 in
        (0, sym (ap (λ (v : Definition). v.home) same) ∙ phi.1, record { here = λ k h. all (results (take k block.lines)); first = λ k h. omega arith; defined = all (results block.lines) })
    by None q =
        let line = from_lines b 0 block.lines x d (sym (found_last (phi_pairs b block.phis) (line_pairs b 0 block.lines) x q) ∙ e) in
        let none : holds (phi_locals block) x ≡ true → ⊥ = λ h. not_found (phi_pairs b block.phis) x q (subst (λ xs. holds xs x ≡ true) (sym (keys_phis b block.phis)) h) in
        let given = line.2 in
        let same : 0 + suc line.0 ≡ suc line.0 = omega arith in (
          suc line.0,
          line.1 ∙ ap (λ (k : ℕ). Some (home b k)) same,
          record {
            here = λ k h. join (results (take k block.lines)) ∙ or_right (holds (phi_locals block) x) (holds (results (take k block.lines)) x) (given.here k (omega (arith, h)));
            first = λ k h. elim (or_cases (holds (phi_locals block) x) (holds (results (take k block.lines)) x) (sym (join (results (take k block.lines))) ∙ h)) [ inl p ↦ absurd (none p) | inr g ↦ (let less = given.first k g in omega (arith, less)) ];
            defined = join (results block.lines) ∙ or_right (holds (phi_locals block) x) (holds (results block.lines) x) (subst (λ ls. holds (results ls) x ≡ true) (take_all block.lines) (given.here (length block.lines) given.below));
          },
        )

from_blocks : (b : ℕ) (bs : List Block) (x : ℕ) (d : Definition) → found (blocks_pairs b bs) x ≡ Some d → (j : ℕ) × (block : Block) × (a : ℕ) × (slice_get bs j ≡ Some block) × (d.home ≡ Some (home (b + j) a)) × IsBorn block a x
from_blocks b [] x d e = absurd (none-some d e)
from_blocks b (block ∷ bs) x d e = by (from_blocks (suc b) bs x d) (found (block_pairs b block) x) refl
  where
    by : (found (blocks_pairs (suc b) bs) x ≡ Some d → (j : ℕ) × (bl : Block) × (a : ℕ) × (slice_get bs j ≡ Some bl) × (d.home ≡ Some (home (suc b + j) a)) × IsBorn bl a x) → (o : Option Definition) → found (block_pairs b block) x ≡ o → (j : ℕ) × (bl : Block) × (a : ℕ) × (slice_get (block ∷ bs) j ≡ Some bl) × (d.home ≡ Some (home (b + j) a)) × IsBorn bl a x
    by again (Some w) q =
        let same = same_Some w d (sym (found_first (block_pairs b block) (blocks_pairs (suc b) bs) x w q) ∙ e) in
        let r = from_block b block x w q in
        let at : b ≡ b + 0 = omega arith in
        (0, block, r.0, refl, sym (ap (λ (v : Definition). v.home) same) ∙ r.1 ∙ ap (λ (c : ℕ). Some (home c r.0)) at, r.2)
    by again None q =
        let r = again (sym (found_last (block_pairs b block) (blocks_pairs (suc b) bs) x q) ∙ e) in
        let at : suc b + r.0 ≡ b + suc r.0 = omega arith in
        (suc r.0, r.1, r.2, r.3, r.4 ∙ ap (λ (c : ℕ). Some (home c r.2)) at, r.5)

-- a local without a home is a parameter
pub found_parameter : (f : Function) (x : ℕ) (d : Definition) → found (definitions f) x ≡ Some d → d.home ≡ None → holds (parameters f) x ≡ true
unfolding definitions
found_parameter f x d e n =
    elim (from_params f.params (blocks_pairs 0 f.blocks) x d e) [
      | inl w ↦ w.0
      | inr w ↦ (let r = from_blocks 0 f.blocks x d w in absurd (none-some (home (0 + r.0) r.2) (sym n ∙ r.4)))
    ]

-- any other is defined in its home
pub found_home : (f : Function) (x : ℕ) (d : Definition) (h : Home) → found (definitions f) x ≡ Some d → d.home ≡ Some h → IsHome f h x
unfolding definitions home
found_home f x d h e n =
    elim (from_params f.params (blocks_pairs 0 f.blocks) x d e) [
      | inl w ↦ absurd (none-some h (sym w.1 ∙ n))
      | inr w ↦ (let r = from_blocks 0 f.blocks x d w in
          let same : home r.0 r.2 ≡ h = ap (λ (c : ℕ). home c r.2) (omega arith) ∙ same_Some (home (0 + r.0) r.2) h (sym r.4 ∙ n) in
          subst (λ (v : Home). IsHome f v x) same (at r.0 r.1 r.2 r.3 r.5))
    ]
  where
    at : (j : ℕ) (block : Block) (a : ℕ) → slice_get f.blocks j ≡ Some block → IsBorn block a x → IsHome f (home j a) x
    at j block a g b = record { block = block; got = g; born = b }

pub none_left : {T : Type 0} (o : Option T) → ((d : T) → o ≡ Some d → ⊥) → o ≡ None
none_left None h = refl
none_left (Some d) h = absurd (h d refl)
