-- The kind of a fault, by the stage that finds it.
use Rattle.std.specs.Prelude.{if◌then◌else◌}
use Rattle.ir_lex.specs.Tok.{Tok}
use Rattle.ir_parse_parts.specs.Alphabet.{among}
use Rattle.ir_parse_parts.specs.declared.fault.TokenFault.{TokenFault}
use Rattle.ir_parse_parts.specs.declared.fault.TokenFault.TheVariants as refusal
use Rattle.ir_parse_names.specs.declared.fault.NameFault.{NameFault}
use Rattle.ir_parse_names.specs.declared.fault.NameFault.TheVariants as broken
use Rattle.ir_parse_parts.specs.Classes.{tokens}
use Rattle.ir_parse_heads.specs.Targets.{STRING}
use Rattle.ir_tree.specs.declared.fault_kind.FaultKind.{FaultKind}
use Rattle.ir_tree.specs.declared.fault_kind.FaultKind.TheVariants as kinds

-- what is refused is a word of the language that isn't covered, or, at a string, a data layout that isn't supported
abbrev pub refused_kind : Tok → FaultKind
refused_kind t = if among tokens STRING t then kinds.Layout else kinds.Profile t.text

abbrev pub grammar_fault : Tok → TokenFault → FaultKind
grammar_fault t refusal.Syntax = kinds.Syntax
grammar_fault t refusal.Profile = refused_kind t
grammar_fault t refusal.Number = kinds.Number
grammar_fault t refusal.Limit = kinds.Limit

abbrev pub name_fault : NameFault → FaultKind
name_fault broken.Twice = kinds.Twice
name_fault broken.Unknown = kinds.Unknown
name_fault broken.Limit = kinds.Limit
name_fault broken.Index = kinds.Index
