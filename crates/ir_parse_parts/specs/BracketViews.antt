-- What a token does to the brackets that are open, as a form sees it.
use Rattle.ir_parse_parts.specs.Balanced.{Move, opens, closes, stays}
use Rattle.ir_parse_parts.specs.declared.brackets.Bracket.{Bracket}
use Rattle.ir_parse_parts.specs.declared.brackets.BracketMove.{BracketMove}
use Rattle.ir_parse_parts.specs.declared.brackets.BracketMove.TheVariants.{Opens, Closes, Stays}

abbrev pub move : BracketMove → Move Bracket
move (Opens b) = opens b
move (Closes b) = closes b
move Stays = stays
