use Rattle.spans.proofs.page_map.PageMap.segment_at.Given as goal

abbrev pub ghosts-segment_from : goal.ghosts-segment_from
ghosts-segment_from a = record { name = a.blank.name; parts = a.blank.parts }
