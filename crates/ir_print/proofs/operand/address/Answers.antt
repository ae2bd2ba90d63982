use Rattle.std.proofs.Common.{◌++◌, List, ℕ, sym, ap, ◌∙◌}
use Rattle.std.specs.Prelude.{codes}
use Rattle.ir_lex.specs.Pieces.{bytes_of}
use Rattle.ir_lex.specs.declared.token.TokenForm.TheVariants as forms
use Rattle.ir_print.specs.Tokens.{tight, space, word, mark, comma, width, signed, signed_piece}
use Rattle.ir_print.proofs.Written.{finish, respelt, led_piece, some_digits, eight_bits, sixty_four_bits, displaced_address}
use Rattle.ir_print.proofs.operand.address.Goals as goal

pub returns-in_ok-signed : goal.returns-in_ok-signed
returns-in_ok-signed c =
    let lead = c.args.lead.now in
    let offset = c.args.offset in
    displaced_address _ lead _ offset _ _ c.if-offset-eq0.false
    (finish _ _ _ _ _ _ (respelt _ (word lead (codes "getelementptr") ++ (mark space 40 ++ (width tight 8 ++ (comma ++ word space (codes "ptr"))))) _ _ (ap (λ (ds : List ℕ). lead ++ (codes "getelementptr (i" ++ ds)) (sym (eight_bits (codes ", ptr")))) c.in_ok-word.ensures)
    (finish _ _ _ _ _ _ c.in_ok-global.ensures
    (finish _ _ _ _ _ _ (respelt _ (comma ++ (width space 64 ++ signed_piece space 64 offset)) _ _
    (led_piece (codes ", i64") (signed 64 offset) forms.Number (some_digits 64 offset c.ranges.offset.fits) ∙ ap (λ (ds : List ℕ). codes ", i" ++ ds) (sym (sixty_four_bits (bytes_of (signed_piece space 64 offset))))) c.in_ok-signed.ensures)
    c.mark.ensures)))
