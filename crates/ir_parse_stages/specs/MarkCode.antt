-- A mark is stored as one of its cases.
use Rattle.std.specs.Prelude.{◌≡◌, ℕ, Option, ◌⊎◌, refl}
use Rattle.std.proofs.Common.{inl, inr}
use Rattle.std.specs.Coded.{Coded, code_by}
use Rattle.ir_lex.specs.Tok.{Tok}
use Rattle.ir_parse_parts.specs.declared.address.Steps.{Steps}
use Rattle.ir_parse_parts.specs.declared.shape.Typed.{Typed}
use Rattle.ir_parse_names.specs.Marks.{Mark, type_name, type_use, shape, many, global, symbol, address}

abbrev pub Cases : Type 0
Cases = (Tok × Option Typed) ⊎ (Tok ⊎ (Typed ⊎ ((Typed × ℕ) ⊎ (Tok ⊎ (Tok ⊎ Steps)))))

abbrev pub case_of : Mark → Cases
case_of (type_name name typed) = inl (name, typed)
case_of (type_use name) = inr (inl name)
case_of (shape typed) = inr (inr (inl typed))
case_of (many typed count) = inr (inr (inr (inl (typed, count))))
case_of (global name) = inr (inr (inr (inr (inl name))))
case_of (symbol name) = inr (inr (inr (inr (inr (inl name)))))
case_of (address steps) = inr (inr (inr (inr (inr (inr steps)))))

abbrev pub mark_of : Cases → Mark
mark_of (inl w) = type_name w.0 w.1
mark_of (inr (inl name)) = type_use name
mark_of (inr (inr (inl typed))) = shape typed
mark_of (inr (inr (inr (inl w)))) = many w.0 w.1
mark_of (inr (inr (inr (inr (inl name))))) = global name
mark_of (inr (inr (inr (inr (inr (inl name)))))) = symbol name
mark_of (inr (inr (inr (inr (inr (inr steps)))))) = address steps

pub same_mark : (m : Mark) → mark_of (case_of m) ≡ m
same_mark (type_name name typed) = refl
same_mark (type_use name) = refl
same_mark (shape typed) = refl
same_mark (many typed count) = refl
same_mark (global name) = refl
same_mark (symbol name) = refl
same_mark (address steps) = refl

abbrev pub mark_code : Coded Cases → Coded Mark
mark_code of_cases = code_by Cases of_cases case_of mark_of same_mark
