-- A function as it is written, and what it resolves to.
--
--     define i32 @f(i32 %x) {
--       %y = add nsw i32 %x, 5
--       br label %next
--     next:
--       phi i32 [ %y, %0 ]
--       %p = alloca [4 x i32]
--       store i32 %1, ptr %p
--       ret i32 %1
--     }
--
-- The first block and the phi have no name, so `%0` and `%1` stand for them.
use Rattle.std.specs.Prelude.{ℕ, true, false, List, [], ◌∷◌, Some, None, codes}
use Rattle.ir_lex.specs.Tok.{Tok}
use Rattle.ir_lex.specs.declared.token_kind.TokenKind.{TokenKind}
use Rattle.ir_lex.specs.declared.token_kind.TokenKind.TheVariants as classes
use Rattle.ir_lex.specs.declared.token.TokenForm.{TokenForm}
use Rattle.ir_lex.specs.declared.token.TokenForm.TheVariants as forms
use Rattle.ir_parse_parts.specs.Shapes as written
use Rattle.ir_parse_parts.specs.declared.raw.Block as raw_block
use Rattle.ir_parse_parts.specs.declared.raw.FunctionHeader as raw_head
use Rattle.ir_parse_parts.specs.declared.raw.Incoming.{Incoming}
use Rattle.ir_parse_parts.specs.declared.raw.Instr.TheVariants as raw_kind
use Rattle.ir_parse_parts.specs.declared.raw.Operand.TheVariants as raw_operand
use Rattle.ir_parse_parts.specs.declared.raw.Terminator.TheVariants as raw_end
use Rattle.ir_tree.specs.Forms.{array, int}
use Rattle.ir_tree.specs.declared.block.Terminator.TheVariants.{Jump, Return}
use Rattle.ir_tree.specs.declared.function.Function.{Function}
use Rattle.ir_tree.specs.declared.function.Linkage.TheVariants.{External}
use Rattle.ir_tree.specs.declared.instr.BinaryOp.TheVariants.{Add}
use Rattle.ir_tree.specs.declared.instr.Flags.{Flags}
use Rattle.ir_tree.specs.declared.instr.Instr.TheVariants as kind
use Rattle.ir_tree.specs.declared.operand.Operand.TheVariants.{Local, Number}
use Rattle.ir_tree.specs.declared.operand.Reg.TheVariants.{Int}

abbrev token : TokenForm → TokenKind → List ℕ → Tok
token kind head text = record { form = kind; text = text; line = 1; kind = head; ends_line = false }

abbrev local : List ℕ → Tok
local text = token forms.Local classes.Local text

abbrev nsw : Flags
nsw = record { nuw = false; nsw = true; exact = false }

abbrev pub worked_head : raw_head.FunctionHeader
worked_head = record {
  linkage = External;
  result = Some (Int 32);
  name = token forms.Global classes.Global (codes "@f");
  params = record { reg = Int 32; name = Some (local (codes "%x")) } ∷ [];
  noinline = false;
  optnone = false;
  groups = [];
}

abbrev pub first : raw_block.Block
first = record {
  label = None;
  lines = record { name = Some (local (codes "%y")); instr = raw_kind.Binary Add nsw 32 (raw_operand.Local (local (codes "%x"))) (raw_operand.Number 32 5); line = 2 } ∷ [];
  end = raw_end.Jump (local (codes "%next"));
  end_line = 3;
}

abbrev pub entries : List Incoming
entries = record { value = raw_operand.Local (local (codes "%y")); from = local (codes "%0") } ∷ []

abbrev pub second : raw_block.Block
second = record {
  label = Some (token forms.Label classes.Label (codes "next:"));
  lines =
      record { name = None; instr = raw_kind.Phi (Int 32) entries; line = 5 }
      ∷ record { name = Some (local (codes "%p")); instr = raw_kind.Alloca (record { shape = written.array 4 (written.int 32); line = 6 }) 1 None; line = 6 }
      ∷ record { name = None; instr = raw_kind.Store (Int 32) (raw_operand.Local (local (codes "%1"))) (raw_operand.Local (local (codes "%p"))) None; line = 7 } ∷ [];
  end = raw_end.Return (Some (record { reg = Int 32; operand = raw_operand.Local (local (codes "%1")) }));
  end_line = 8;
}

abbrev pub worked_blocks : List raw_block.Block
worked_blocks = first ∷ second ∷ []

-- the parameter, the first block, its result, the second block and its results are 0 to 5
abbrev pub worked : Function
worked = record {
  symbol = record { home = None; name = codes "f" };
  linkage = External;
  result = Some (Int 32);
  params = record { local = 0; reg = Int 32 } ∷ [];
  noinline = false;
  optnone = false;
  blocks =
      record { number = 1; phis = []; lines = record { local = Some 2; instr = kind.Binary Add nsw 32 (Local 0) (Number 32 5) } ∷ []; end = Jump 3 }
      ∷ record {
        number = 3;
        phis = record { local = 4; reg = Int 32; incoming = record { from = 1; value = Local 2 } ∷ [] } ∷ [];
        lines = record { local = Some 5; instr = kind.Alloca (array 4 (int 32)) 4 } ∷ record { local = None; instr = kind.Store (Int 32) (Local 4) (Local 5) 4 } ∷ [];
        end = Return (Some (record { reg = Int 32; operand = Local 4 }));
      }
      ∷ [];
}
