-- Document 01, "The network and its steps", conflict: what no two packets may take in one step. It is a link, by its number. Only
-- the claims, their meaning and the answers told to programs know that; all else has these two names.
use Rattle.std.specs.Prelude.{Bool, ℕ, eqb}

abbrev pub Resource : Type 0
Resource = ℕ

abbrev pub same : Resource → Resource → Bool
same a b = eqb a b
