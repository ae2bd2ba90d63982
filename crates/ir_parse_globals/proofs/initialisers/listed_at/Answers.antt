use Rattle.std.proofs.Common.{◌≡◌, ◌<◌, Bool, true, List, [], length, Ok, reverse, sym, ap, ◌∙◌}
use Rattle.ir_lex.specs.Tok.{Tok}
use Rattle.ir_parse_parts.specs.Alphabet.{among}
use Rattle.ir_parse_parts.specs.Chained.{chain_at, stops_here}
use Rattle.ir_parse_parts.specs.Readers.{folded}
use Rattle.ir_parse_parts.proofs.ChainLoops.{chain_on, chain_none}
use Rattle.ir_parse_parts.proofs.Stars.{behind, collected, takes}
use Rattle.ir_parse_parts.specs.Classes.{tokens}
use Rattle.ir_parse_parts.specs.declared.raw.InitPart.{InitPart}
use Rattle.ir_parse_globals.specs.Initialisers.{Spot, outermost}
use Rattle.ir_parse_globals.specs.InitialisersAt.{BEGINNINGS, begins_there, there_at, listed_at}
use Rattle.ir_parse_globals.specs.declared.initialisers.Aggregate.{Aggregate}
use Rattle.ir_parse_globals.proofs.InitialiserRules.{piece_rule}
use Rattle.ir_parse_globals.proofs.initialisers.listed_at.Goals as goal

shorter : (s : Spot) (ts rest : List Tok) (x : InitPart × Spot) → there_at s ts ≡ Ok (x, rest) → length rest < length ts
shorter s ts rest x e = takes tokens (among tokens (BEGINNINGS s.0 s.1)) (piece_rule s.0 s.1).law ts rest x e

-- no part is read, and nothing is open
at_first : (ps : List InitPart) (open_ones : List Aggregate) (ts : List Tok) → ps ≡ [] → open_ones ≡ [] → folded behind ps (chain_at outermost begins_there there_at (true, reverse open_ones) ts) ≡ listed_at ts
at_first ps open_ones ts p q =
    ap (λ (x : List InitPart). folded behind x (chain_at outermost begins_there there_at (true, reverse open_ones) ts)) p
    ∙ ap (λ (x : List Aggregate). folded behind [] (chain_at outermost begins_there there_at (true, reverse x) ts)) q
    ∙ collected (listed_at ts)

pub each-init : goal.each-init
each-init c = at_first _ _ c.args.tokens.now c.new-parts.ensures.items c.new-around.ensures.items

-- whether the parts stop is a matter of which aggregates are open
stops_with : (first : Bool) (xs ys : List Aggregate) (ts : List Tok) → xs ≡ ys → stops_here outermost begins_there (first, reverse ys) ts ≡ stops_here outermost begins_there (first, reverse xs) ts
stops_with first xs ys ts e = ap (λ (zs : List Aggregate). stops_here outermost begins_there (first, reverse zs) ts) (sym e)

pub each-smaller : goal.each-smaller
each-smaller c = shorter (c.each.first, reverse c.each.around.items) _ _ _ c.in_ok-piece.ensures

pub each-preserved : goal.each-preserved
each-preserved c =
    ap (λ (x : List InitPart). folded behind x (chain_at outermost begins_there there_at (c.in_ok-piece.piece.first, reverse c.piece_at.new.around.items) c.piece_at.new.tokens)) c.in_ok-push.ensures.items
    ∙ chain_on outermost begins_there there_at shorter behind c.each.parts.items (c.each.first, reverse c.each.around.items) _ _ _ _ (stops_with _ _ _ _ c.deref.ensures.value ∙ sym c.each-test.ensures) c.in_ok-piece.ensures c.each.invariant

pub returns : goal.returns
returns c = chain_none outermost begins_there there_at shorter behind c.each.parts.items (c.each.first, reverse c.each.around.items) _ _ (stops_with _ _ _ _ c.deref.ensures.value ∙ sym c.each-test.ensures) c.each.invariant
