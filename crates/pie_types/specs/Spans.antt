-- Where expressions and blocks stand.
use Rattle.std.specs.Prelude.{ℕ}
use Rattle.pie_parser.specs.Plain.{Tree, TLiteral, TName, TNull, TEmpty, TChain, TCompare, TPrefix, TProject, TTuple, TList, TEach, TIf, TCall, TEffect}
use Rattle.pie_parser.specs.Plain.{TWrite, TFail, BlockTree, TBlock, NoLast, ALast}

-- the first byte of an expression
abbrev pub at_of : Tree → ℕ
at_of (TLiteral i j l) = i
at_of (TName i j n) = i
at_of (TNull i j t) = i
at_of (TEmpty i j t) = i
at_of (TChain i j a ss) = i
at_of (TCompare i j c a b) = i
at_of (TPrefix i j p a) = i
at_of (TProject i j a ns) = i
at_of (TTuple i j ts) = i
at_of (TList i j ts) = i
at_of (TEach i j a n b) = i
at_of (TIf i j a b o) = i
at_of (TCall i j k n ts) = i
at_of (TEffect i j k a) = i
at_of (TWrite i j a b) = i
at_of (TFail i j t a) = i

-- the end of an expression
abbrev pub end_of : Tree → ℕ
end_of (TLiteral i j l) = j
end_of (TName i j n) = j
end_of (TNull i j t) = j
end_of (TEmpty i j t) = j
end_of (TChain i j a ss) = j
end_of (TCompare i j c a b) = j
end_of (TPrefix i j p a) = j
end_of (TProject i j a ns) = j
end_of (TTuple i j ts) = j
end_of (TList i j ts) = j
end_of (TEach i j a n b) = j
end_of (TIf i j a b o) = j
end_of (TCall i j k n ts) = j
end_of (TEffect i j k a) = j
end_of (TWrite i j a b) = j
end_of (TFail i j t a) = j

-- the first byte of what a block answers: its last expression, or the whole block without one
abbrev pub answer_at : BlockTree → ℕ
answer_at (TBlock i j ls NoLast) = i
answer_at (TBlock i j ls (ALast e)) = at_of e

-- the end of what a block answers
abbrev pub answer_end : BlockTree → ℕ
answer_end (TBlock i j ls NoLast) = j
answer_end (TBlock i j ls (ALast e)) = end_of e
