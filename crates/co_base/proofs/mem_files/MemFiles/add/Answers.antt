use Rattle.std.proofs.lemmas.Map.Text.{btree_map_updates_text}
use Rattle.co_base.proofs.mem_files.MemFiles.add.Goals as goal

pub returns-clause-ok : goal.returns-clause-ok
returns-clause-ok c = λ q. rw (← c.in_ok-name.ensures.ok, ← c.in_ok-bytes.ensures) (btree_map_updates_text _ c.args.self.now.held c.insert.new.self _ c.in_ok-insert.ensures.updates q)
