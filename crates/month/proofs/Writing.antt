-- The words of a month as they are put together: eight, then one for each height, then the last.
use mathlib.Core.Path.{◌≡◌, refl, sym, ap, ap₂, ◌∙◌}
use mathlib.Core.Bool.{true}
use mathlib.Core.List.{List, [], ◌∷◌, ◌++◌, append_assoc}
use Prim.Native.Nat.{ℕ, ◌+◌, ◌-◌, ◌*◌, ◌≤◌, ◌<◌}
use native.Mathlib.Omega.{arith}
use lib.ListN.{length, take, set, length-append, get_or-append}
use lib.Seq.{sets, get_or-append-add}
use Rattle.lists.specs.Tab.{tab, word}
use Rattle.lists.specs.Sum.{sum_below}
use Rattle.lists.proofs.Laws.{length-tab, get_d-tab, list-tab, sets-append}
use Rattle.lists.proofs.Sum.{sum_same}
use Rattle.answer.specs.Refusal.{overwrite}
use Rattle.answer.proofs.Laws.{sets-overwrite}
use Rattle.month.specs.Month.{MONTH-WORDS, HEIGHTS, height_of, used_at, total_at, operations_of, used_of, padding_of, fullest, emptiest, files_at, shown, month_words, Planned}
use Rattle.month.proofs.Fullness.{shown-one, shown-none}
use Rattle.month.proofs.Histogram.{heights-sum}
use Rattle.month.proofs.Totals.{used-is, used-and-padding}

module _ (nr floor : ℕ) (counts : List ℕ) where
  pub first-eight : {ops used rows fu ft eu et : ℕ} → ops ≡ operations_of counts → used ≡ ops * nr → rows ≡ sum_below (length counts) (total_at nr floor counts)
      → fu ≡ shown (used_at nr counts) (fullest nr floor counts) → ft ≡ shown (total_at nr floor counts) (fullest nr floor counts)
      → eu ≡ shown (used_at nr counts) (emptiest nr floor counts) → et ≡ shown (total_at nr floor counts) (emptiest nr floor counts)
      → length counts ∷ ops ∷ used ∷ (rows - used) ∷ fu ∷ ft ∷ eu ∷ et ∷ [] ≡ take 8 (month_words nr floor counts)
  unfolding month_words
  first-eight {used = used} {rows = rows} a b r p q s t =
      let u : used ≡ used_of nr counts = b ∙ ap (λ (n : ℕ). n * nr) a ∙ sym (used-is nr floor counts) in
      let d : rows - used ≡ padding_of nr floor counts = omega (arith, r, u, used-and-padding nr floor counts) in
      λ i. length counts ∷ a i ∷ u i ∷ d i ∷ p i ∷ q i ∷ s i ∷ t i ∷ []

  abbrev heights : List ℕ
  heights = tab HEIGHTS (λ e. files_at nr floor counts (height_of e))

  abbrev last : ℕ
  last = shown (λ i. 1) (fullest nr floor counts)

  in_three : month_words nr floor counts ≡ take 8 (month_words nr floor counts) ++ (heights ++ (last ∷ []))
  unfolding month_words
  in_three = refl

  length-eight : length (take 8 (month_words nr floor counts)) ≡ 8
  unfolding month_words
  length-eight = refl

  pub length-month : length (month_words nr floor counts) ≡ MONTH-WORDS
  unfolding month_words
  length-month = let e = length-append heights (last ∷ []) in let f = length-tab HEIGHTS (λ e. files_at nr floor counts (height_of e)) in omega (arith, e, f)

  pub month-put : (first files out one two : List ℕ) {v : ℕ} → MONTH-WORDS ≤ length out → first ≡ take 8 (month_words nr floor counts) → files ≡ heights → v ≡ last
      → one ≡ sets out 0 (tab 8 (word first)) → two ≡ sets one 8 (tab HEIGHTS (word files)) → set two 38 v ≡ overwrite (month_words nr floor counts) out
  month-put first files out one two {v} long f h l e g =
      ap (λ (o : List ℕ). set o 38 v) (g ∙ ap₂ (λ (o vs : List ℕ). sets o 8 vs) (e ∙ ap (sets out 0) (eight ∙ f)) (thirty ∙ h))
      ∙ ap (λ (o : List ℕ). set o 38 v) (ap (λ (n : ℕ). sets (sets out 0 front) n heights) (sym front_long) ∙ sets-append out 0 front heights)
      ∙ ap (λ (n : ℕ). set (sets out 0 (front ++ heights)) n v) (sym both_long)
      ∙ sets-append out 0 (front ++ heights) (v ∷ [])
      ∙ ap (sets out 0) (append_assoc front heights (v ∷ []) ∙ ap (λ (n : ℕ). front ++ (heights ++ (n ∷ []))) l ∙ sym in_three)
      ∙ sets-overwrite out (month_words nr floor counts) (omega (arith, length-month, long))
    where
      front : List ℕ
      front = take 8 (month_words nr floor counts)

      eight : tab 8 (word first) ≡ first
      eight = sym (list-tab first 8 (ap length f ∙ length-eight))

      thirty : tab HEIGHTS (word files) ≡ files
      thirty = sym (list-tab files HEIGHTS (ap length h ∙ length-tab HEIGHTS _))

      front_long : 0 + length front ≡ 8
      front_long = omega (arith, length-eight)

      both_long : 0 + length (front ++ heights) ≡ 38
      both_long = omega (arith, length-append front heights, length-eight, length-tab HEIGHTS (λ e. files_at nr floor counts (height_of e)))

  -- the last word: whether there is a file
  pub last_none : length counts ≡ 0 → 0 ≡ last
  last_none e = sym (ap (shown (λ i. 1)) (shown-none true nr floor counts e))

  pub last_one : (length counts ≡ 0 → ⊥) → 1 ≡ last
  last_one n = let x = shown-one true nr floor counts (omega (arith, n)) in sym (ap (shown (λ i. 1)) x.1)

  -- the words of the heights, and their sum
  pub height-word : (e : ℕ) → e < HEIGHTS → word (month_words nr floor counts) (8 + e) ≡ files_at nr floor counts (height_of e)
  height-word e l =
      let front = take 8 (month_words nr floor counts) in
      let b : e < length heights = omega (arith, l, length-tab HEIGHTS (λ e. files_at nr floor counts (height_of e))) in
      ap (λ (ws : List ℕ). word ws (8 + e)) in_three
      ∙ ap (λ (n : ℕ). word (front ++ (heights ++ (last ∷ []))) (n + e)) (sym length-eight)
      ∙ get_or-append-add front (heights ++ (last ∷ [])) e 0
      ∙ get_or-append heights (last ∷ []) 0 e b
      ∙ get_d-tab HEIGHTS (λ e. files_at nr floor counts (height_of e)) e 0 l

  pub height-words-sum : Planned nr floor counts → sum_below HEIGHTS (λ e. word (month_words nr floor counts) (8 + e)) ≡ length counts
  height-words-sum p = sum_same HEIGHTS _ _ height-word ∙ heights-sum nr floor counts p

  pub row-words-sum : word (month_words nr floor counts) 2 + word (month_words nr floor counts) 3 ≡ sum_below (length counts) (total_at nr floor counts)
  unfolding month_words
  row-words-sum = used-and-padding nr floor counts
