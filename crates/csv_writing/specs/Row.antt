-- The text of a row.
use Rattle.std.specs.Prelude.{ℕ, ◌+◌, [], ◌∷◌, ◌++◌, map, take, drop}
use Rattle.model.specs.Words.{Words, word, value}
use Rattle.model.specs.Table.{arity}
use Rattle.model.specs.Bytes.{Text, cr, lf}
use Rattle.model.specs.Csv.{bare, spell_record}
use Rattle.model.specs.Decimal.{decimal}

-- the record of the first n words
unfoldable pub fields_of : Words → ℕ → Text
fields_of row n = spell_record (bare (decimal (word row 0))) (map (λ z. bare (decimal z)) (drop 1 (take n row)))

-- the line of a good row
unfoldable pub line_of : Words → Words → Text
line_of table row = fields_of row (2 + arity table (value row 0)) ++ cr ∷ lf ∷ []
