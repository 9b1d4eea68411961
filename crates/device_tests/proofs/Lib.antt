mod DraftPairs
