-- What is judged, as a host sees it. `holds`, `same` and `yes` are 1 exactly where the tables hold, where file and table are
-- the same, and where the list is the message's; a kind begins at 1, so that of words that are all 0, of a refusal and of a
-- failure nothing reads as good (proofs/Told.antt).
use Rattle.std.specs.Prelude.{ℕ, Bool, true, false, Result, Ok, Err}
use Rattle.answer.specs.Refusal.{refusal_number, refusal_detail}
use Rattle.answer.specs.declared.Refusal.{Refusal}
use Rattle.verdict.specs.declared.Table.{Table}
use Rattle.verdict.specs.declared.Table.TheVariants.{Core, Round}
use Rattle.verdict.specs.declared.Verdict.{Verdict}
use Rattle.verdict.specs.declared.Verdict.TheVariants.{Refused, Value, Lookup, Repeated, Unbalanced, Holds}
use Rattle.same_operations.specs.declared.Agreement.{Agreement}
use Rattle.same_operations.specs.declared.Agreement.TheVariants as agreement
use Rattle.flat.specs.declared.FlatVerdict.{FlatVerdict}
use Rattle.flat.specs.declared.FlatAgreement.{FlatAgreement}
use Rattle.flat.specs.declared.FlatReply.{FlatReply}

-- a failure by its kind, table (0 core, 1 round), row and index
unfoldable pub failure : ℕ → ℕ → ℕ → ℕ → FlatVerdict
failure kind table row index =
    record { refusal = 0; detail = 0; holds = 0; active = 0; kind = kind; table = table; row = row; index = index }

-- a failure of the first kind in a core row, of the second in a round row
unfoldable pub failed_in : ℕ → ℕ → Table → ℕ → ℕ → FlatVerdict
unfolding failure
failed_in core round Core row index = failure core 0 row index
failed_in core round Round row index = failure round 1 row index

-- A verdict: 7 and the count; or the failure's place in the verdict's order, 1 to 6, its table, row and index, the words of
-- `verdict_words` (proofs/Told.antt: `failure-words`).
unfoldable pub flat_verdict : Verdict → FlatVerdict
unfolding failure failed_in
flat_verdict (Holds n) =
    record { refusal = 0; detail = 0; holds = 1; active = n; kind = 7; table = 0; row = 0; index = 0 }
flat_verdict (Value t r i) = failed_in 1 4 t r i
flat_verdict (Lookup t r i) = failed_in 2 5 t r i
flat_verdict (Repeated r) = failure 3 0 r 0
flat_verdict (Unbalanced t r i) = failed_in 6 6 t r i
flat_verdict (Refused r) =
    record { refusal = refusal_number r; detail = refusal_detail r; holds = 0; active = 0; kind = 0; table = 0; row = 0; index = 0 }

-- a file against a core table: "the first file record with no partner of its own", "the first active row left", "same"
unfoldable pub flat_agreement : Result Agreement Refusal → FlatAgreement
flat_agreement (Ok (agreement.Record i)) = record { refusal = 0; detail = 0; same = 0; kind = 1; place = i }
flat_agreement (Ok (agreement.Row r)) = record { refusal = 0; detail = 0; same = 0; kind = 2; place = r }
flat_agreement (Ok agreement.Same) = record { refusal = 0; detail = 0; same = 1; kind = 3; place = 0 }
flat_agreement (Err r) =
    record { refusal = refusal_number r; detail = refusal_detail r; same = 0; kind = 0; place = 0 }

-- a list against a message
unfoldable pub flat_reply : Result Bool Refusal → FlatReply
flat_reply (Ok true) = record { refusal = 0; detail = 0; yes = 1 }
flat_reply (Ok false) = record { refusal = 0; detail = 0; yes = 0 }
flat_reply (Err r) = record { refusal = refusal_number r; detail = refusal_detail r; yes = 0 }
