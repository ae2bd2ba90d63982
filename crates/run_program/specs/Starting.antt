-- Where a run of a program begins (LangRef, "Functions", "Simple Constants").
use Rattle.std.specs.Prelude.{ℕ, Bool, if◌then◌else◌, List, [], ◌∷◌, map, Option, Some, None}
use Rattle.ir_tree.specs.declared.function.Function.{Function}
use Rattle.ir_tree.specs.declared.function.Param.{Param}
use Rattle.ir_tree.specs.declared.operand.Reg.{Reg}
use Rattle.ir_tree.specs.declared.operand.Reg.TheVariants.{Int, Ptr}
use Rattle.ir_parse_parts.specs.Literals.{negated, unsigned}
use Rattle.ir_meaning.specs.Program.{Program, State}
use Rattle.ir_meaning.specs.Run.{start}
use Rattle.ir_meaning.specs.declared.value.Value.TheVariants.{Number}
use Rattle.ir_meaning.specs.Programs.{shared}
use Rattle.lto_words.specs.declared.list.Decimal.{Decimal}

-- ---- arguments

-- the bits of a literal of `iw`: a number from -2^(w-1) to 2^w - 1, of which a negative one wraps
abbrev pub literal : ℕ → Bool → Option ℕ → Option ℕ
literal w negative None = None
literal w negative (Some magnitude) = if negative then negated w magnitude else unsigned w magnitude

-- what a parameter of a type takes; no decimal is a literal of a pointer
abbrev pub argument : Reg → Decimal → Option ℕ
argument (Int w) d = literal w d.negative d.magnitude
argument Ptr d = None

abbrev pub with_more : Option ℕ → Option (List ℕ) → Option (List ℕ)
with_more None more = None
with_more (Some n) None = None
with_more (Some n) (Some ns) = Some (n ∷ ns)

-- what parameters take, one each: none where there are more or fewer, or one of them takes none
abbrev pub arguments : List Param → List Decimal → Option (List ℕ)
arguments [] [] = Some []
arguments [] (d ∷ ds) = None
arguments (p ∷ ps) [] = None
arguments (p ∷ ps) (d ∷ ds) = with_more (argument p.reg d) (arguments ps ds)

-- ---- the root

-- the function of a name, where it is defined
abbrev pub root_of : Program → List ℕ → Option Function
root_of p name = p.code (shared name)

abbrev pub result_of : Option Function → Option Reg
result_of None = None
result_of (Some f) = f.result

abbrev pub taken_by : Option Function → List Decimal → Option (List ℕ)
taken_by None args = None
taken_by (Some f) args = arguments f.params args

abbrev pub started : Program → List ℕ → Option (List ℕ) → Option State
started p root None = None
started p root (Some numbers) = start p (shared root) (map (λ n. Number n) numbers)

-- the state in which a run from the root begins: none where no function of this name is defined that takes the arguments
abbrev pub beginning : Program → List ℕ → List Decimal → Option State
beginning p root args = started p root (taken_by (root_of p root) args)
