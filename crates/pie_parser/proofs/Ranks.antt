-- How far each level of operators stands above what operators stand on.
use Rattle.std.proofs.Common.{ℕ}
use Rattle.pie_parser.specs.declared.chain.Level.{Level}
use Rattle.pie_parser.specs.declared.chain.Level.TheVariants.{Or, And, Sum, Product}

abbrev pub rank_of : Level → ℕ
rank_of Or = 23
rank_of And = 19
rank_of Sum = 14
rank_of Product = 10
