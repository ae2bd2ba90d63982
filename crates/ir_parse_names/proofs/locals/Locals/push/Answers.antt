use Rattle.std.proofs.Common.{◌≡◌, ◌≤◌, ◌+◌, ◌^◌, ap, sym, subst, ◌∙◌, ◌++◌, ◌∷◌, [], false, refl, length, arith, length-append}
use Rattle.std.proofs.lemmas.List.{length-map}
use Rattle.ir_parse_names.specs.KeyViews.{key}
use Rattle.ir_parse_names.specs.Locals.{LocalTable, MayFollow, stands, is_below, counted}
use Rattle.ir_parse_names.specs.LocalsViews.{definition, definitions}
use Rattle.ir_parse_names.proofs.Definitions.{pushed, keeps, bounded}
use Rattle.ir_parse_names.proofs.locals.Locals.push.Goals as goal

pub counted-counter-requires : goal.counted-counter-requires
counted-counter-requires c =
    let es = definitions c.self.inside.map.entries in
    let many : length es ≡ length c.self.inside.map.entries = length-map c.self.inside.map.entries definition in
    let next : MayFollow c.self.inside.counter (key c.args.new_key) = subst (λ (k : LocalTable). MayFollow k.counter (key c.args.new_key)) (sym c.self.view_is) c.requires.next in
    let low : counted c.self.inside.counter (key c.args.new_key) ≤ 2 ^ 32 + length es + 1 = bounded c.self.inside.counter (length es) (key c.args.new_key) c.self.invariant.1 next in
    omega (arith, low, many, c.len-known.ensures.small, c.len-known.ensures.len)

listed : (c : goal.After-self-1) → definitions c.insert.new.self.entries ≡ definitions c.self.inside.map.entries ++ (key c.args.new_key, c.args.sort) ∷ []
listed c =
    ap definitions c.in_ok-insert.ensures.entries
    ∙ pushed c.self.inside.map c.args.new_key c.args.sort (ap (λ (k : LocalTable). stands k.definitions (key c.args.new_key)) c.self.view_is ∙ c.requires.free)

pub invariant_of-self-2 : goal.invariant_of-self-2
invariant_of-self-2 c =
    let es = definitions c.self.inside.map.entries in
    let above : is_below c.self.inside.counter (key c.args.new_key) ≡ false = ap (λ (k : LocalTable). is_below k.counter (key c.args.new_key)) c.self.view_is ∙ c.requires.above in
    let all = keeps c.self.inside.counter es (key c.args.new_key) c.args.sort above c.self.invariant.0 in
    let next : MayFollow c.self.inside.counter (key c.args.new_key) = subst (λ (k : LocalTable). MayFollow k.counter (key c.args.new_key)) (sym c.self.view_is) c.requires.next in
    let low : counted c.self.inside.counter (key c.args.new_key) ≤ 2 ^ 32 + length es + 1 = bounded c.self.inside.counter (length es) (key c.args.new_key) c.self.invariant.1 next in
    let more : length (es ++ (key c.args.new_key, c.args.sort) ∷ []) ≡ length es + 1 = length-append es ((key c.args.new_key, c.args.sort) ∷ []) in
    (rw (listed c, c.counted-counter.ensures) all, rw (listed c, c.counted-counter.ensures) (omega (arith, low, more)))

pub returns : goal.returns
returns c = rw (sym c.self.view_is, listed c, c.counted-counter.ensures) refl
