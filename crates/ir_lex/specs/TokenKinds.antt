-- What a token is to a grammar: its class, by which a reader chooses.
use Rattle.std.specs.Prelude.{ℕ, ◌+◌, ◌-◌, ◌*◌, Bool, true, false, ◌&&◌, ◌||◌, not, nat_eq, nat_lt, if◌then◌else◌, List, [], ◌∷◌, length, map, take, drop, codes}
use Rattle.std.specs.Str.{bytes_eq}
use Rattle.ir_lex.specs.declared.token_kind.TokenKind.{TokenKind}
use Rattle.ir_lex.specs.declared.token_kind.TokenKind.TheVariants as kinds
use Rattle.ir_lex.specs.declared.token.TokenForm.{TokenForm}
use Rattle.ir_lex.specs.declared.token.TokenForm.TheVariants as forms
use Rattle.ir_lex.specs.declared.bytes.Set.TheVariants.{Digits, WordBytes}
use Rattle.ir_lex.specs.declared.words.TheConstants.{WORDS_1, WORDS_2, WORDS_3, WORDS_4, WORDS_5, WORDS_6, WORDS_7, WORDS_8, WORDS_9, WORDS_10, WORDS_11, WORDS_12, WORDS_13, WORDS_14, WORDS_15, WORDS_18, WORDS_20, WORDS_21, WORDS_22, WORDS_23}
use Rattle.ir_lex.specs.Blanks.{skip}
use Rattle.ir_lex.specs.Bytes.{run, starts_word}
use Rattle.ir_lex.specs.Quotes.{content}
use Rattle.ir_lex.specs.Rows.{label_len}

-- each class by its place in the list of classes
abbrev pub number : TokenKind → ℕ
number kinds.Number = 0
number kinds.Local = 1
number kinds.Global = 2
number kinds.NumberedGlobal = 3
number kinds.ReservedGlobal = 4
number kinds.LifetimeMarker = 5
number kinds.Label = 6
number kinds.ComdatName = 7
number kinds.Meta = 8
number kinds.Bang = 9
number kinds.Group = 10
number kinds.Str = 11
number kinds.CStr = 12
number kinds.OpenParen = 13
number kinds.CloseParen = 14
number kinds.OpenBracket = 15
number kinds.CloseBracket = 16
number kinds.OpenBrace = 17
number kinds.CloseBrace = 18
number kinds.OpenAngle = 19
number kinds.CloseAngle = 20
number kinds.Comma = 21
number kinds.Equals = 22
number kinds.RefusedMark = 23
number kinds.Mark = 24
number kinds.Word = 25
number kinds.MemoryInteger = 26
number kinds.RegisterInteger = 27
number kinds.RefusedInteger = 28
number kinds.Ptr = 29
number kinds.Void = 30
number kinds.RefusedType = 31
number kinds.RefusedAttribute = 32
number kinds.RefusedWord = 33
number kinds.SourceFilename = 34
number kinds.Target = 35
number kinds.Datalayout = 36
number kinds.Triple = 37
number kinds.Type = 38
number kinds.Opaque = 39
number kinds.Comdat = 40
number kinds.Any = 41
number kinds.Attributes = 42
number kinds.Declare = 43
number kinds.Define = 44
number kinds.GlobalVariable = 45
number kinds.Constant = 46
number kinds.Private = 47
number kinds.Internal = 48
number kinds.External = 49
number kinds.Linkonce = 50
number kinds.LinkonceOdr = 51
number kinds.Weak = 52
number kinds.WeakOdr = 53
number kinds.AvailableExternally = 54
number kinds.Visibility = 55
number kinds.UnnamedAddr = 56
number kinds.CallingConvention = 57
number kinds.ZeroInitializer = 58
number kinds.Times = 59
number kinds.True = 60
number kinds.False = 61
number kinds.Null = 62
number kinds.Poison = 63
number kinds.GetElementPtr = 64
number kinds.Inbounds = 65
number kinds.Nusw = 66
number kinds.Nuw = 67
number kinds.Nsw = 68
number kinds.Exact = 69
number kinds.Disjoint = 70
number kinds.Samesign = 71
number kinds.Nneg = 72
number kinds.Add = 73
number kinds.Sub = 74
number kinds.Mul = 75
number kinds.Shl = 76
number kinds.Udiv = 77
number kinds.Sdiv = 78
number kinds.Lshr = 79
number kinds.Ashr = 80
number kinds.Urem = 81
number kinds.Srem = 82
number kinds.And = 83
number kinds.Xor = 84
number kinds.Or = 85
number kinds.Icmp = 86
number kinds.Eq = 87
number kinds.Ne = 88
number kinds.Ugt = 89
number kinds.Uge = 90
number kinds.Ult = 91
number kinds.Ule = 92
number kinds.Sgt = 93
number kinds.Sge = 94
number kinds.Slt = 95
number kinds.Sle = 96
number kinds.Zext = 97
number kinds.Sext = 98
number kinds.Trunc = 99
number kinds.To = 100
number kinds.Select = 101
number kinds.Freeze = 102
number kinds.Phi = 103
number kinds.Alloca = 104
number kinds.Load = 105
number kinds.Store = 106
number kinds.TailMark = 107
number kinds.Call = 108
number kinds.Ret = 109
number kinds.Br = 110
number kinds.Switch = 111
number kinds.Unreachable = 112
number kinds.LabelType = 113
number kinds.Align = 114
number kinds.ParameterWord = 115
number kinds.ParameterGroup = 116
number kinds.Noinline = 117
number kinds.Optnone = 118
number kinds.NumberedDefinition = 119

-- ---- words, by how many bytes they have

-- the class of a word that one of these rows has, a word and its class each
abbrev pub class_in : List (List ℕ × TokenKind) → List ℕ → TokenKind
class_in [] text = kinds.Word
class_in (row ∷ rows) text = if bytes_eq text row.0 then row.1 else class_in rows text

unfoldable pub words_1 : List ℕ → TokenKind
words_1 = class_in (map (λ row. (row.0.now, row.1)) WORDS_1)

unfoldable pub words_2 : List ℕ → TokenKind
words_2 = class_in (map (λ row. (row.0.now, row.1)) WORDS_2)

unfoldable pub words_3 : List ℕ → TokenKind
words_3 = class_in (map (λ row. (row.0.now, row.1)) WORDS_3)

unfoldable pub words_4 : List ℕ → TokenKind
words_4 = class_in (map (λ row. (row.0.now, row.1)) WORDS_4)

unfoldable pub words_5 : List ℕ → TokenKind
words_5 = class_in (map (λ row. (row.0.now, row.1)) WORDS_5)

unfoldable pub words_6 : List ℕ → TokenKind
words_6 = class_in (map (λ row. (row.0.now, row.1)) WORDS_6)

unfoldable pub words_7 : List ℕ → TokenKind
words_7 = class_in (map (λ row. (row.0.now, row.1)) WORDS_7)

unfoldable pub words_8 : List ℕ → TokenKind
words_8 = class_in (map (λ row. (row.0.now, row.1)) WORDS_8)

unfoldable pub words_9 : List ℕ → TokenKind
words_9 = class_in (map (λ row. (row.0.now, row.1)) WORDS_9)

unfoldable pub words_10 : List ℕ → TokenKind
words_10 = class_in (map (λ row. (row.0.now, row.1)) WORDS_10)

unfoldable pub words_11 : List ℕ → TokenKind
words_11 = class_in (map (λ row. (row.0.now, row.1)) WORDS_11)

unfoldable pub words_12 : List ℕ → TokenKind
words_12 = class_in (map (λ row. (row.0.now, row.1)) WORDS_12)

unfoldable pub words_13 : List ℕ → TokenKind
words_13 = class_in (map (λ row. (row.0.now, row.1)) WORDS_13)

unfoldable pub words_14 : List ℕ → TokenKind
words_14 = class_in (map (λ row. (row.0.now, row.1)) WORDS_14)

unfoldable pub words_15 : List ℕ → TokenKind
words_15 = class_in (map (λ row. (row.0.now, row.1)) WORDS_15)

unfoldable pub words_18 : List ℕ → TokenKind
words_18 = class_in (map (λ row. (row.0.now, row.1)) WORDS_18)

unfoldable pub words_20 : List ℕ → TokenKind
words_20 = class_in (map (λ row. (row.0.now, row.1)) WORDS_20)

unfoldable pub words_21 : List ℕ → TokenKind
words_21 = class_in (map (λ row. (row.0.now, row.1)) WORDS_21)

unfoldable pub words_22 : List ℕ → TokenKind
words_22 = class_in (map (λ row. (row.0.now, row.1)) WORDS_22)

unfoldable pub words_23 : List ℕ → TokenKind
words_23 = class_in (map (λ row. (row.0.now, row.1)) WORDS_23)

-- by how many bytes the word has
unfoldable pub listed_kind : List ℕ → TokenKind
listed_kind text =
    if nat_eq (length text) 1 then words_1 text
    else (if nat_eq (length text) 2 then words_2 text
    else (if nat_eq (length text) 3 then words_3 text
    else (if nat_eq (length text) 4 then words_4 text
    else (if nat_eq (length text) 5 then words_5 text
    else (if nat_eq (length text) 6 then words_6 text
    else (if nat_eq (length text) 7 then words_7 text
    else (if nat_eq (length text) 8 then words_8 text
    else (if nat_eq (length text) 9 then words_9 text
    else (if nat_eq (length text) 10 then words_10 text
    else (if nat_eq (length text) 11 then words_11 text
    else (if nat_eq (length text) 12 then words_12 text
    else (if nat_eq (length text) 13 then words_13 text
    else (if nat_eq (length text) 14 then words_14 text
    else (if nat_eq (length text) 15 then words_15 text
    else (if nat_eq (length text) 18 then words_18 text
    else (if nat_eq (length text) 20 then words_20 text
    else (if nat_eq (length text) 21 then words_21 text
    else (if nat_eq (length text) 22 then words_22 text
    else (if nat_eq (length text) 23 then words_23 text
    else kinds.Word)))))))))))))))))))

-- ---- integer types

-- digits that write a number without a needless zero
abbrev pub is_plain_number : List ℕ → Bool
is_plain_number [] = false
is_plain_number (d ∷ ds) = not (nat_eq d 48 && nat_lt 0 (length ds)) && nat_eq (run Digits (d ∷ ds)) (length (d ∷ ds))

-- the number that these digits write; 65 for more than two, which write one past 64
abbrev pub width_of : List ℕ → ℕ
width_of [] = 0
width_of (d ∷ []) = d - 48
width_of (d ∷ e ∷ []) = 10 * (d - 48) + (e - 48)
width_of (d ∷ e ∷ f ∷ ds) = 65

-- registers hold integers of 1 to 64 bits
abbrev pub width_kind : ℕ → TokenKind
width_kind width = if nat_lt 0 width && nat_lt width 65 then kinds.RegisterInteger else kinds.RefusedInteger

-- iN, or another word
abbrev pub integer_kind : List ℕ → TokenKind
integer_kind [] = kinds.Word
integer_kind (b ∷ ds) = if nat_eq b 105 then (if is_plain_number ds then width_kind (width_of ds) else kinds.Word) else kinds.Word

unfoldable pub word_kind : List ℕ → TokenKind
word_kind text = if nat_eq (number (listed_kind text)) (number kinds.Word) then integer_kind text else listed_kind text

-- ---- names of globals

abbrev pub begins_with : List ℕ → List ℕ → Bool
begins_with [] bs = true
begins_with (c ∷ cs) [] = false
begins_with (c ∷ cs) (b ∷ bs) = nat_eq b c && begins_with cs bs

-- names that LLVM keeps for itself; of these the two lifetime markers are known
unfoldable pub name_kind : List ℕ → TokenKind
name_kind name =
    if bytes_eq name (codes "llvm.lifetime.start.p0") || bytes_eq name (codes "llvm.lifetime.end.p0") then kinds.LifetimeMarker
    else (if bytes_eq name (codes "llvm") || begins_with (codes "llvm.") name then kinds.ReservedGlobal
    else kinds.Global)

-- written by its number: digits behind the sigil
abbrev pub is_numbered : List ℕ → Bool
is_numbered digits = nat_lt 0 (length digits) && nat_eq (run Digits digits) (length digits)

-- the word private or internal, and no label
unfoldable pub is_local_linkage : List ℕ → Bool
is_local_linkage bs = nat_eq (label_len bs) 0 && (bytes_eq (take (run WordBytes bs) bs) (codes "private") || bytes_eq (take (run WordBytes bs) bs) (codes "internal"))

abbrev pub gives_local : List ℕ → Bool
gives_local [] = false
gives_local (b ∷ bs) = nat_eq b 61 && is_local_linkage (skip false 0 bs).bytes

-- behind blanks and comments, an equals sign, and again behind some, such a word
abbrev pub defines_local : List ℕ → Bool
defines_local bs = gives_local (skip false 0 bs).bytes

unfoldable pub global_kind : List ℕ → List ℕ → TokenKind
global_kind text behind =
    if is_numbered (drop 1 text) then (if defines_local behind then kinds.NumberedDefinition else kinds.NumberedGlobal)
    else name_kind (content forms.Global text)

-- ---- marks

abbrev pub begins_word : List ℕ → Bool
begins_word [] = false
begins_word (b ∷ bs) = starts_word b

-- a single byte before others
unfoldable pub mark_kind : List ℕ → List ℕ → TokenKind
mark_kind text behind =
    if bytes_eq text (codes "(") then kinds.OpenParen
    else (if bytes_eq text (codes ")") then kinds.CloseParen
    else (if bytes_eq text (codes "[") then kinds.OpenBracket
    else (if bytes_eq text (codes "]") then kinds.CloseBracket
    else (if bytes_eq text (codes "{") then kinds.OpenBrace
    else (if bytes_eq text (codes "}") then kinds.CloseBrace
    else (if bytes_eq text (codes "<") then kinds.OpenAngle
    else (if bytes_eq text (codes ">") then kinds.CloseAngle
    else (if bytes_eq text (codes ",") then kinds.Comma
    else (if bytes_eq text (codes "=") then kinds.Equals
    else (if bytes_eq text (codes "^") then kinds.RefusedMark
    else (if bytes_eq text (codes "#") then (if begins_word behind then kinds.RefusedMark else kinds.Mark)
    else kinds.Mark)))))))))))

-- ---- tokens

-- the class of a token of this kind and text, with these bytes behind it
unfoldable pub kind_of : TokenForm → List ℕ → List ℕ → TokenKind
kind_of forms.Label text behind = kinds.Label
kind_of forms.Number text behind = kinds.Number
kind_of forms.Word text behind = word_kind text
kind_of forms.Local text behind = kinds.Local
kind_of forms.Global text behind = global_kind text behind
kind_of forms.Comdat text behind = kinds.ComdatName
kind_of forms.Meta text behind = if nat_eq (length text) 1 then kinds.Bang else kinds.Meta
kind_of forms.Group text behind = kinds.Group
kind_of forms.Str text behind = kinds.Str
kind_of forms.CStr text behind = kinds.CStr
kind_of forms.Dots text behind = kinds.RefusedMark
kind_of forms.Other text behind = mark_kind text behind
