mod CountsSoFar
