-- `iter::check` meets its contract. Assumes nothing.
use Rattle.iter.proofs.CodeLaws.{check_1, check_2, check_3, check_4}
use Rattle.iter.proofs.check.Goals as goal

pub returns-then-not-is_store : goal.returns-then-not-is_store
returns-then-not-is_store c = check_1 _ _ c.is_store.ensures c.if-not-is_store.true-raw

pub returns-then-key_len-gt-LONGEST_KEY : goal.returns-then-key_len-gt-LONGEST_KEY
returns-then-key_len-gt-LONGEST_KEY c = check_2 _ _ c.is_store.ensures c.if-not-is_store.false-raw c.if-key_len-gt-LONGEST_KEY.true

pub returns-then-depth-gt-MOST_DEPTH : goal.returns-then-depth-gt-MOST_DEPTH
returns-then-depth-gt-MOST_DEPTH c = check_3 _ _ c.is_store.ensures c.if-not-is_store.false-raw c.if-key_len-gt-LONGEST_KEY.false c.depth.ensures c.if-depth-gt-MOST_DEPTH.true

pub returns : goal.returns
returns c = check_4 _ _ c.is_store.ensures c.if-not-is_store.false-raw c.if-key_len-gt-LONGEST_KEY.false c.depth.ensures c.if-depth-gt-MOST_DEPTH.false
