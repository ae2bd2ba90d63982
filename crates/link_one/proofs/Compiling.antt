-- What is compiled, place by place: each value comes of one of the parts, with bodies that stand among them.
use Rattle.std.proofs.Common.{◌≡◌, inl, inr, ℕ, suc, true, List, [], ◌∷◌, ◌++◌, Option, Some}
use Rattle.std.specs.Prelude.{slice_index_or}
use Rattle.std.specs.List.{AllZip}
use Rattle.ir_tree.specs.declared.function.Function.{Function}
use Rattle.ir_tree.specs.declared.module.GlobalValue.{GlobalValue}
use Rattle.ir_tree.specs.declared.module.GlobalValue.TheVariants as global
use Rattle.ir_tree.specs.declared.operand.Symbol.{Symbol}
use Rattle.back_end.specs.Inlinable.{may_inline}
use Rattle.back_end.proofs.Offered.{IsAmong, among}
use Rattle.importer.specs.Brought.{brought, joined}
use Rattle.importer.proofs.OfParts.{brought_stands}
use Rattle.importer.proofs.Members.{Stands, behind, either_part, in_front, zip_append, zip_map}
use Rattle.link_one.specs.Linked.{AreCompiled, IsLinkedGlobal, bodies_for}

-- each of these bodies is a function among the values, and may be inlined
abbrev pub AreAmong : ℕ → List GlobalValue → (List ℕ → Option Function) → Type 0
AreAmong limit all bodies = (name : List ℕ) (c : Function) → bodies name ≡ Some c → Stands all (global.Function c) × (may_inline limit c ≡ true)

module _ (limit : ℕ) (all : List GlobalValue) (symbols : List Symbol) (suffixes : List (List ℕ)) where
  pub bodies_among : (numbers : List ℕ) (part : List GlobalValue) → ((g : GlobalValue) → Stands part g → Stands all g) → AreAmong limit all (bodies_for limit all symbols suffixes numbers part)
  bodies_among numbers part within name c e =
      let a : IsAmong limit (brought all symbols suffixes numbers ++ part) c = among limit (brought all symbols suffixes numbers ++ part) name c e in
      let here : Stands all (global.Function c) = elim (either_part (brought all symbols suffixes numbers) part (global.Function c) (a.place, a.here)) [
        | inl from ↦ brought_stands all symbols suffixes numbers (global.Function c) from
        | inr own ↦ within (global.Function c) own
      ] in
      (here, a.may)

  -- what holds of each value and what is compiled of it holds of all of them
  pub pairs : (R : GlobalValue → GlobalValue → Type 0) → ((bodies : List ℕ → Option Function) → AreAmong limit all bodies → (g h : GlobalValue) → Stands all g → IsLinkedGlobal bodies g h → R g h)
      → (imports : List (List ℕ)) (k : ℕ) (parts units : List (List GlobalValue)) → ((g : GlobalValue) → Stands (joined parts) g → Stands all g)
      → AreCompiled limit all symbols suffixes imports k parts units → AllZip R (joined parts) (joined units)
  pairs R one imports k [] [] within c = tt
  pairs R one imports k [] (unit ∷ units) within c = absurd c
  pairs R one imports k (part ∷ parts) [] within c = absurd c
  pairs R one imports k (part ∷ parts) (unit ∷ units) within c =
      let bodies : List ℕ → Option Function = bodies_for limit all symbols suffixes (slice_index_or imports k []) part in
      let own : (g : GlobalValue) → Stands part g → Stands all g = λ g s. within g (in_front part (joined parts) g s) in
      zip_append R part unit (joined parts) (joined units)
      (zip_map (IsLinkedGlobal (bodies_for limit all symbols suffixes (slice_index_or imports k []) part)) R part unit
      (λ g h s made. one (bodies_for limit all symbols suffixes (slice_index_or imports k []) part) (bodies_among (slice_index_or imports k []) part own) g h (own g s) made) c.0)
      (pairs R one imports (suc k) parts units (λ g s. within g (behind part (joined parts) g s)) c.1)
