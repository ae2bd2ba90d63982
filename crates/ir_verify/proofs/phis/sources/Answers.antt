use Rattle.std.proofs.Common.{◌≡◌, ◌∙◌, ◌+◌, ◌<◌, ◌++◌, ◌∷◌, [], ℕ, List, length, get_or, take, map, ap, sym, arith}
use Rattle.std.proofs.lemmas.List.{map_more, take_all}
use Rattle.ir_tree.specs.declared.instr.Incoming.{Incoming}
use Rattle.ir_tree.specs.Rules.{place}
use Rattle.ir_verify.proofs.phis.sources.Goals as goal

-- one item more
pushed : {X : Type 0} (of : X → ℕ) (xs : List X) (i : ℕ) (x : X) (n : ℕ) (old new : List ℕ) → i < length xs → x ≡ get_or xs i x → n ≡ of x → new ≡ old ++ n ∷ [] → old ≡ map of (take i xs) → new ≡ map of (take (i + 1) xs)
pushed of xs i x n old new low is value push so_far =
    push
    ∙ ap (λ (ns : List ℕ). ns ++ n ∷ []) so_far
    ∙ ap (λ (m : ℕ). map of (take i xs) ++ m ∷ []) (value ∙ ap of is)
    ∙ sym (map_more of xs i x low)

pub loop-entry-preserved : goal.loop-entry-preserved
loop-entry-preserved c =
    pushed (λ e. place c.args.blocks.now e.from) c.args.entries.now c.loop-entry.entry-index c.entry-item.result c.place_of.result c.loop-entry.sources.items c.push.new.self.items
    c.loop-entry-test.true c.entry-item.is c.place_of.ensures c.in_ok-push.ensures.items c.loop-entry.invariant

pub returns : goal.returns
returns c = c.loop-entry.invariant ∙ ap (map (λ (e : Incoming). place c.args.blocks.now e.from)) (take_all c.loop-entry.entry-index c.args.entries.now (omega arith))
