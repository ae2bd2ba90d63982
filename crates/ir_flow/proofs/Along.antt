-- What a mark of the greatest solution says of paths.
use Rattle.std.proofs.Common.{◌≡◌, ℕ, ◌<◌, Bool, true, List, [], ◌∷◌, length, Option, Some, sym, subst, arith}
use Rattle.ir_tree.specs.declared.function.Function.{Function}
use Rattle.ir_tree.specs.Flow.{Among, Equations, AtEnds, Justified, IsJustified, KeepsInclusion, edges, Path}
use Rattle.ir_flow.specs.Laws.{GreatestIsMarked, LeadsFrom, carried, MarksHoldOnPaths, AreOver, MarksHoldFromEntry}
use Rattle.ir_flow.proofs.Solved.{at_end}
use Rattle.ir_flow.proofs.Reaching.{edge-from}

pub greatest-marked : GreatestIsMarked
greatest-marked e rows g b x = (λ m. (rows, g.justified, m), λ k. g.greatest k.0 k.1 b x k.2)

along : (e : Equations) → KeepsInclusion e → (rows : ℕ → ℕ → Bool) → IsJustified e rows → (row : ℕ → Bool) (ps : List ℕ) (b x : ℕ) → LeadsFrom e row ps b → rows b x ≡ true → carried e row ps x ≡ true
along e keeps rows j row [] b x leads m = subst (λ (o : Option (ℕ → Bool)). Justified e rows b x o) leads (j b x m).2
along e keeps rows j row (p ∷ ps) b x leads m =
    let ends : AtEnds e rows x (e.edges b) = subst (λ (o : Option (ℕ → Bool)). Justified e rows b x o) leads.1 (j b x m).2 in
    keeps p (rows p) (carried e row ps) leads.0 (λ y small h. along e keeps rows j row ps p y leads.3 h) x (j b x m).1 (at_end e rows x p (e.edges b) ends leads.2)

pub marks-on-paths : MarksHoldOnPaths
marks-on-paths e keeps b x marked row ps leads = along e keeps marked.0 marked.1 row ps b x leads marked.2

leading : (f : Function) (e : Equations) (row : ℕ → Bool) → AreOver f e row → ((p : ℕ) → Among p (edges f 0) → ⊥) → (ps : List ℕ) (b : ℕ) → Path f ps b → LeadsFrom e row ps b
leading f e row over none [] b path = subst (λ (n : ℕ). e.fixed n ≡ Some row) (sym path.0) over.entry
leading f e row over none (p ∷ ps) b path =
    let below : p < length f.blocks = edge-from f b p path.0 in (
      omega (arith, below, over.blocks),
      over.met b (λ z. none p (subst (λ (n : ℕ). Among p (edges f n)) z path.0)),
      subst (Among p) (sym (over.edges b)) path.0,
      leading f e row over none ps p path.1,
    )

pub marks-from-entry : MarksHoldFromEntry
marks-from-entry f e row over keeps none b x marked ps path = marks-on-paths e keeps b x marked row ps (leading f e row over none ps b path)
