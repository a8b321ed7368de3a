-- Document 01, "Job text and plan text": the text of a job, the one text that is read as this job.
use Rattle.std.specs.Prelude.{List, [], ◌∷◌, ◌++◌, ℕ}
use Rattle.rules.specs.Network.{Job, paths}
use Rattle.rules.specs.Bytes.{letter_l, letter_n, letter_p, line_text}

-- a line for each place that both lists have
unfoldable pub lines_text : {A B : Type 0} → (A → B → List ℕ) → List A → List B → List ℕ
lines_text line [] ys = []
lines_text line (x ∷ xs) [] = []
lines_text line (x ∷ xs) (y ∷ ys) = line x y ++ lines_text line xs ys

-- N's line, then a line for each link, then a line for each packet
unfoldable pub text_of_job : Job → List ℕ
text_of_job j =
    line_text letter_n (j.network.nodes ∷ [])
    ++ lines_text (λ from to. line_text letter_l (from ∷ to ∷ [])) j.network.origins j.network.ends
    ++ lines_text (λ source path. line_text letter_p (source ∷ path)) j.sources (paths j)
