-- One entry more: what the recursions over a table's entries say at an index.
use Rattle.std.specs.Prelude.{◌≡◌, refl, Bool, true, false, List, [], ◌∷◌, ◌++◌, ℕ, suc, ◌+◌, ◌%◌, ◌≤◌, ◌<◌, length, get_or, drop}
use Rattle.std.proofs.Math.Path.{sym}
use Rattle.std.proofs.Common.{◌∙◌, ap, add-one, add_assoc, drop_of_length-le, drop-cons}
use Rattle.isdbs_combination.specs.declared.CombinationWord.{CombinationWord}
use Rattle.isdbs_tables.specs.declared.Entry.{Entry}
use Rattle.isdbs_combination.specs.Combinations.{word_means, assigned_of}
use Rattle.isdbs_combination.specs.CombinationLaws.{assigned}
use Rattle.isdbs_tables.specs.Tables.{slot_sum, some, entry_combination}

-- what stands past the end of a list of entries
abbrev pub no_entry : Entry
no_entry = record { word = 0; slots = 0 }

module _ (es : List Entry) (i : ℕ) where
  pub next : i < length es → drop i es ≡ get_or es i no_entry ∷ drop (i + 1) es
  next h = rw (add-one i) (drop-cons es i no_entry h)

  pub sum_more : (sum : ℕ) → i < length es → (sum + (get_or es i no_entry).slots) + slot_sum (drop (i + 1) es) ≡ sum + slot_sum (drop i es)
  unfolding slot_sum
  sum_more sum h = rw (next h) (add_assoc sum (get_or es i no_entry).slots (slot_sum (drop (i + 1) es)))

  -- a test b of entry i
  module _ (test : Entry → Bool) (b : Bool) (e : b ≡ test (get_or es i no_entry)) (h : i < length es) where
    pub some_found : b ≡ true → some test (drop i es) ≡ true
    unfolding some
    some_found f = rw (next h, sym e ∙ f)

    pub some_passed : b ≡ false → some test (drop i es) ≡ some test (drop (i + 1) es)
    unfolding some
    some_passed f = rw (next h, sym e ∙ f)

  pub some_end : (test : Entry → Bool) → length es ≤ i → some test (drop i es) ≡ false
  unfolding some
  some_end test h = rw (drop_of_length-le es h)

  pub sum_end : length es ≤ i → slot_sum (drop i es) ≡ 0
  unfolding slot_sum
  sum_end h = rw (drop_of_length-le es h)

-- what an entry's word was read as has the entry's combination
pub entry_word : (e : Entry) (x : CombinationWord) → x ≡ word_means e.word → entry_combination e ≡ assigned_of x
entry_word e x q = sym (assigned (e.word % 16) (entry_combination e)) ∙ ap assigned_of (sym q)
