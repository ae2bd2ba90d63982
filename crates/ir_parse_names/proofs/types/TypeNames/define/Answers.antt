use Rattle.std.proofs.Common.{◌≡◌, ℕ, Bool, true, false, cond, [], ◌∷◌, ◌++◌, Ok, Err, is_some, option_copied, sym, ap, ◌∙◌}
use Rattle.ir_parse_names.specs.Keys.{Key, key_of}
use Rattle.ir_parse_names.specs.KeyViews.{key}
use Rattle.ir_parse_names.specs.Locals.{twice}
use Rattle.ir_parse_names.specs.Types.{entry_of}
use Rattle.ir_parse_names.proofs.Failing.{resolves_as}
use Rattle.ir_parse_names.proofs.KnownTypes.{is_known}
use Rattle.ir_parse_names.proofs.types.TypeNames.define.Goals as goal

pub returns-then-is_some : goal.returns-then-is_some
returns-then-is_some c =
    let known : is_some (entry_of c.args.self.now (key_of c.args.name.now)) ≡ true =
    is_known c.args.self.now c.place_of.result (key c.in_ok-wanted.wanted) (key_of c.args.name.now) c.place_of.ensures.shape c.in_ok-wanted.ensures.exact ∙ sym c.is_some.ensures ∙ c.if-is_some.true in
    ap (λ (b : Bool). cond b (Err (twice c.args.name.now.line)) (Ok (c.args.self.now ++ (key_of c.args.name.now, option_copied c.args.shape) ∷ []))) known ∙ ap (λ (n : ℕ). Err (twice n)) (sym c.line.ensures)

pub returns : goal.returns
returns c =
    let new : is_some (entry_of c.args.self.now (key_of c.args.name.now)) ≡ false =
    is_known c.args.self.now c.place_of.result (key c.in_ok-wanted.wanted) (key_of c.args.name.now) c.place_of.ensures.shape c.in_ok-wanted.ensures.exact ∙ sym c.is_some.ensures ∙ c.if-is_some.false in
    resolves_as _ _ _ _
    (ap (λ (k : Key). Ok (c.args.self.now ++ (k, option_copied c.args.shape) ∷ [])) c.in_ok-wanted.ensures.exact
    ∙ sym (ap (λ (b : Bool). cond b (Err (twice c.args.name.now.line)) (Ok (c.args.self.now ++ (key_of c.args.name.now, option_copied c.args.shape) ∷ []))) new))
    c.push.ensures
