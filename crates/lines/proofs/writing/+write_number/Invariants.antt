use Rattle.lines.proofs.writing.+write_number.Given as goal

-- proposed from what the function passes where it calls itself
abbrev pub decreases-write_number : goal.decreases-write_number
decreases-write_number l = l.n
